-- Going over a message's sets.
use Rattle.std.proofs.Common.{◌≡◌, ℕ, zero, suc, ◌+◌, ◌-◌, ◌^◌, ◌≤◌, ◌<◌, List, [], ◌∷◌, length}
use Rattle.std.proofs.Common.{refl, sym, ap, ◌∙◌, arith}
use Rattle.std.specs.Prelude.{slice_get, Some, None}
use Rattle.std.specs.List.{AllByRecursion}
use Rattle.std.proofs.lemmas.List.{length-append}
use Rattle.ipfix_writer.specs.Grammar.{IpfixSet, IpfixMessage, set_bytes, sets_bytes, FitsSet, FitsMessage}
use Rattle.ipfix_writer.proofs.GrammarLaws.{first_read, set_length}
use Rattle.ipfix_reader.specs.Reading.{SpellsFirst, BeginsWithSet}

-- the bytes are these sets
pub record AreSets (sets : List IpfixSet) (rest : List ℕ) : Type 0 where
  pub fits : AllByRecursion FitsSet sets
  pub spelled : rest ≡ sets_bytes sets

-- a set, and the others behind it
pub record NextSet (sets : List IpfixSet) (s : IpfixSet) (behind : List ℕ) : Type 0 where
  pub others : List IpfixSet
  pub is : sets ≡ s ∷ others
  pub are : AreSets others behind

-- the set at the front is the first of them
pub next_set : (sets : List IpfixSet) (rest : List ℕ) (s : IpfixSet) (behind : List ℕ) → AreSets sets rest → SpellsFirst rest s behind
    → NextSet sets s behind
next_set [] rest s behind are first =
    let long = (first_read rest s behind first.fits first.spelled).long in
    absurd (omega (arith, ap length are.spelled))
next_set (x ∷ xs) rest s behind are first =
    let one = first_read rest x (sets_bytes xs) are.fits.0 are.spelled in
    let other = first_read rest s behind first.fits first.spelled in
    record {
      others = xs;
      is = ap (λ y. y ∷ xs) (sym one.is ∙ other.is);
      are = record { fits = are.fits.1; spelled = sym other.behind ∙ one.behind };
    }

-- where no set stands at the front there are none
pub no_sets : (sets : List IpfixSet) (rest : List ℕ) → AreSets sets rest → ¬ BeginsWithSet rest → sets ≡ []
no_sets [] rest are none = refl
no_sets (s ∷ ss) rest are none = absurd (none (s, sets_bytes ss, record { fits = are.fits.0; spelled = are.spelled }))

-- ---- how many sets there are

no_more_than_bytes : (sets : List IpfixSet) → length sets ≤ length (sets_bytes sets)
no_more_than_bytes [] = omega arith
no_more_than_bytes (s ∷ ss) =
    let others = no_more_than_bytes ss in
    omega (arith, set_length s, length-append (set_bytes s) (sets_bytes ss))

-- so many sets were passed over
pub record Counted (all : List IpfixSet) (count : ℕ) (rest : List ℕ) : Type 0 where
  pub left : List IpfixSet
  pub are : AreSets left rest
  pub counted : count + length left ≡ length all
  pub few : length all < 2 ^ 16

pub counted_none : (m : IpfixMessage) (rest : List ℕ) → FitsMessage m → rest ≡ sets_bytes m.sets → Counted m.sets 0 rest
counted_none m rest fits is =
    let few = no_more_than_bytes m.sets in
    let short = fits.len in
    record { left = m.sets; are = record { fits = fits.sets; spelled = is }; counted = omega arith; few = omega arith }

pub counted_more : (all : List IpfixSet) (count : ℕ) (rest : List ℕ) (s : IpfixSet) (behind : List ℕ) → Counted all count rest
    → SpellsFirst rest s behind → Counted all (count + 1) behind
counted_more all count rest s behind so first =
    let next = next_set so.left rest s behind so.are first in
    let counted = so.counted in
    record { left = next.others; are = next.are; counted = omega (arith, ap length next.is); few = so.few }

pub counted_all : (all : List IpfixSet) (count : ℕ) (rest : List ℕ) → Counted all count rest → ¬ BeginsWithSet rest → count ≡ length all
counted_all all count rest so none =
    let counted = so.counted in
    omega (arith, ap length (no_sets so.left rest so.are none))

-- ---- the set at an index

-- the set that is sought is the one at an index among those that are left
pub record Sought (all : List IpfixSet) (k index : ℕ) (rest : List ℕ) : Type 0 where
  pub left : List IpfixSet
  pub are : AreSets left rest
  pub same : slice_get left index ≡ slice_get all k

pub sought_start : (m : IpfixMessage) (k : ℕ) (rest : List ℕ) → FitsMessage m → rest ≡ sets_bytes m.sets → Sought m.sets k k rest
sought_start m k rest fits is = record { left = m.sets; are = record { fits = fits.sets; spelled = is }; same = refl }

pub sought_more : (all : List IpfixSet) (k index : ℕ) (rest : List ℕ) (s : IpfixSet) (behind : List ℕ) → Sought all k index rest
    → SpellsFirst rest s behind → 0 < index → Sought all k (index - 1) behind
sought_more all k zero rest s behind so first more = absurd (omega arith)
sought_more all k (suc index) rest s behind so first more =
    let next = next_set so.left rest s behind so.are first in
    let one_on : suc index - 1 ≡ index = omega arith in
    record {
      left = next.others;
      are = next.are;
      same = ap (slice_get next.others) one_on ∙ sym (ap (λ sets. slice_get sets (suc index)) next.is) ∙ so.same;
    }

pub sought_here : (all : List IpfixSet) (k index : ℕ) (rest : List ℕ) (s : IpfixSet) (behind : List ℕ) → Sought all k index rest
    → SpellsFirst rest s behind → index ≡ 0 → slice_get all k ≡ Some s
sought_here all k index rest s behind so first here =
    let next = next_set so.left rest s behind so.are first in
    sym so.same ∙ ap (slice_get so.left) here ∙ ap (λ sets. slice_get sets 0) next.is

pub sought_none : (all : List IpfixSet) (k index : ℕ) (rest : List ℕ) → Sought all k index rest → ¬ BeginsWithSet rest
    → slice_get all k ≡ None
sought_none all k index rest so none = sym so.same ∙ ap (λ sets. slice_get sets index) (no_sets so.left rest so.are none)

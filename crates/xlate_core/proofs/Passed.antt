-- Leases that a loop goes over, while those before an index may have ended.
use Rattle.std.proofs.Common.{◌≡◌, ℕ, zero, suc, Some, ◌+◌, ◌<◌, true, List, [], ◌∷◌, length, get_or, set, drop, refl, sym, ap, ◌∙◌, subst, length-set, arith}
use Rattle.std.specs.Prelude.{slice_get}
use Rattle.std.specs.List.{AllZip}
use Rattle.std.proofs.lemmas.List.{drop_more, drop-set-lt, get_or-drop}
use Rattle.aftr_base.specs.Row.{ended}
use Rattle.aftr_base.specs.declared.row.LeaseRow.{LeaseRow}
use Rattle.aftr_base.proofs.Pairwise.{zip_same}
use Rattle.nat_mapping.specs.Rows.{Mapping}
use Rattle.xlate_core.specs.Expiry.{Idle, Lasts, MayEnd, is_idle}
use Rattle.xlate_core.proofs.Zips.{zip_put}

-- each may have ended since, and those from the index on are as they were
pub record ArePassed (now : ℕ) (rows : List Mapping) (old ls : List LeaseRow) (i : ℕ) : Type 0 where
  pub ended : AllZip (MayEnd now rows) old ls
  pub later : drop i ls ≡ drop i old
  pub size : length ls ≡ length old

pub none_passed : (now : ℕ) (rows : List Mapping) (old : List LeaseRow) → ArePassed now rows old old 0
none_passed now rows old = record { ended = zip_same (MayEnd now rows) (λ l. Lasts refl) old; later = refl; size = refl }

same_at : (xs ys : List LeaseRow) (i : ℕ) (d : LeaseRow) → drop i xs ≡ drop i ys → get_or xs i d ≡ get_or ys i d
same_at xs ys i d h =
    let here : i + 0 ≡ i = omega arith in
    ap (λ (n : ℕ). get_or xs n d) (sym here) ∙ sym (get_or-drop i xs 0 d) ∙ ap (λ (l : List LeaseRow). get_or l 0 d) h
    ∙ get_or-drop i ys 0 d ∙ ap (λ (n : ℕ). get_or ys n d) here

same_later : (xs ys : List LeaseRow) (i : ℕ) (d : LeaseRow) → i < length xs → i < length ys → drop i xs ≡ drop i ys
    → drop (i + 1) xs ≡ drop (i + 1) ys
same_later xs ys i d lt lt' h = sym (ap (drop 1) (drop_more xs i d lt)) ∙ ap (drop 1) h ∙ ap (drop 1) (drop_more ys i d lt')

-- past one that stays
pub passed : (now : ℕ) (rows : List Mapping) (old ls ls' : List LeaseRow) (i : ℕ) (d : LeaseRow) → i < length ls → ls' ≡ ls
    → ArePassed now rows old ls i → ArePassed now rows old ls' (i + 1)
passed now rows old ls ls' i d lt same h = subst (λ (l : List LeaseRow). ArePassed now rows old l (i + 1)) (sym same) (record {
  ended = h.ended;
  later = same_later ls old i d lt (omega (arith, lt, h.size)) h.later;
  size = h.size;
})

-- past one that ends
pub passed_ended : (now : ℕ) (rows : List Mapping) (old ls ls' : List LeaseRow) (i : ℕ) (d : LeaseRow) → i < length ls
    → ls' ≡ set ls i (ended now (get_or ls i d)) → is_idle rows (get_or ls i d) ≡ true → ArePassed now rows old ls i
    → ArePassed now rows old ls' (i + 1)
passed_ended now rows old ls ls' i d lt same idle h =
    let e = ended now (get_or ls i d) in
    let there = same_at ls old i d h.later in
    let was : is_idle rows (get_or old i d) ≡ true = ap (is_idle rows) (sym there) ∙ idle in
    let became : MayEnd now rows (get_or old i d) e = Idle was (ap (ended now) there) in
    let next : i < i + 1 = omega arith in
    subst (λ (l : List LeaseRow). ArePassed now rows old l (i + 1)) (sym same) (record {
      ended = zip_put (MayEnd now rows) old ls i d e h.ended lt became;
      later = drop-set-lt (i + 1) ls i e next ∙ same_later ls old i d lt (omega (arith, lt, h.size)) h.later;
      size = length-set ls i e ∙ h.size;
    })

-- the lease at an index
pub slice_there : (ls : List LeaseRow) (i : ℕ) (d : LeaseRow) → i < length ls → slice_get ls i ≡ Some (get_or ls i d)
slice_there [] i d lt = absurd (omega (arith, lt))
slice_there (l ∷ ls) zero d lt = refl
slice_there (l ∷ ls) (suc i) d lt = slice_there ls i d (omega (arith, lt))

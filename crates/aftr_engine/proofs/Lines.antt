-- Lines of words.
use Rattle.std.proofs.Common.{◌≡◌, ℕ, zero, suc, ◌+◌, ◌<◌, List, [], ◌∷◌, ◌++◌, length, map, take, drop, get_or, decimal, codes, None}
use Rattle.std.proofs.Common.{refl, sym, ap, ◌∙◌, append_assoc, append-nil, arith}
use Rattle.std.specs.List.{join_with_byte}
use Rattle.std.proofs.lemmas.Grind.{flat_map-append}
use Rattle.std.proofs.lemmas.List.{take_more, take-append-drop, map-append}
use Rattle.aftr_base.specs.declared.event.DropCause.{DropCause}
use Rattle.aftr_base.specs.declared.row.LeaseRow.{LeaseRow}
use Rattle.aftr_base.specs.declared.row.PlanRow.{PlanRow}
use Rattle.aftr_engine.specs.report.Lines.{line, drop_line, drop_lines, lease_line, lease_lines, plan_line, plan_lines}

-- one more word
join_push : (byte : ℕ) (word : List ℕ) (words : List (List ℕ)) (last : List ℕ)
    → join_with_byte byte (word ∷ (words ++ last ∷ [])) ≡ join_with_byte byte (word ∷ words) ++ byte ∷ last
join_push byte word [] last = refl
join_push byte word (next ∷ words) last =
    ap (λ (xs : List ℕ). word ++ (byte ∷ xs)) (join_push byte next words last)
    ∙ sym (append_assoc word (byte ∷ join_with_byte byte (next ∷ words)) (byte ∷ last))

-- one more number behind two words
pub number_push : (head name numbers : List ℕ) (i : ℕ) → i < length numbers
    → join_with_byte 32 (head ∷ name ∷ map decimal (take (i + 1) numbers))
    ≡ join_with_byte 32 (head ∷ name ∷ map decimal (take i numbers)) ++ 32 ∷ decimal (get_or numbers i 0)
number_push head name numbers i lt =
    ap (λ (ws : List (List ℕ)). join_with_byte 32 (head ∷ name ∷ ws))
    (ap (λ (ns : List ℕ). map decimal ns) (take_more numbers i 0 lt) ∙ map-append decimal (take i numbers) (get_or numbers i 0 ∷ []))
    ∙ join_push 32 head (name ∷ map decimal (take i numbers)) (decimal (get_or numbers i 0))

-- one more line of a cause
pub drops_next : (causes : List DropCause) (counts : List ℕ) (k : ℕ) (cause : DropCause) → k < length causes → k < length counts
    → drop_lines (take (suc k) causes) (take (suc k) counts)
    ≡ drop_lines (take k causes) (take k counts) ++ drop_line (get_or causes k cause) (get_or counts k 0)
drops_next [] counts k cause in_causes in_counts = absurd (omega arith)
drops_next (c ∷ cs) [] k cause in_causes in_counts = absurd (omega arith)
drops_next (c ∷ cs) (n ∷ ns) zero cause in_causes in_counts = append-nil (drop_line c n)
drops_next (c ∷ cs) (n ∷ ns) (suc k) cause in_causes in_counts =
    ap (λ (l : List ℕ). drop_line c n ++ l) (drops_next cs ns k cause (omega arith) (omega arith))
    ∙ sym (append_assoc (drop_line c n) (drop_lines (take k cs) (take k ns)) (drop_line (get_or cs k cause) (get_or ns k 0)))

-- what stands behind the last lease of a list
abbrev pub no_lease : LeaseRow
no_lease = record {
  owner = record { 0 = record { bits = record { 0 = 0 }; len = 0 } };
  addr = record { 0 = 0 };
  first = 0;
  last = 0;
  since = record { 0 = 0 };
  until = None;
}

-- one more line of a lease, and the lines behind it
pub leases_next : (leases : List LeaseRow) (k : ℕ) → k < length leases
    → lease_lines (take (k + 1) leases) ≡ lease_lines (take k leases) ++ lease_line (get_or leases k no_lease)
leases_next leases k inside =
    ap (λ (ls : List LeaseRow). lease_lines ls) (take_more leases k no_lease inside)
    ∙ flat_map-append lease_line (take k leases) (get_or leases k no_lease ∷ [])
    ∙ ap (λ (l : List ℕ). lease_lines (take k leases) ++ l) (append-nil (lease_line (get_or leases k no_lease)))

pub leases_split : (leases : List LeaseRow) (k : ℕ) → k < length leases
    → (lease_lines (take k leases) ++ lease_line (get_or leases k no_lease)) ++ lease_lines (drop (k + 1) leases) ≡ lease_lines leases
leases_split leases k inside =
    ap (λ (l : List ℕ). l ++ lease_lines (drop (k + 1) leases)) (sym (leases_next leases k inside))
    ∙ sym (flat_map-append lease_line (take (k + 1) leases) (drop (k + 1) leases))
    ∙ ap (λ (ls : List LeaseRow). lease_lines ls) (take-append-drop (k + 1) leases)

-- ---- lines in the making

-- a text, a byte and another text were appended
pub appended_three : (old a b first second third : List ℕ) (byte : ℕ) → first ≡ old ++ a → second ≡ first ++ byte ∷ [] → third ≡ second ++ b
    → third ≡ old ++ (a ++ byte ∷ b)
appended_three old a b first second third byte e f g =
    g
    ∙ ap (λ (xs : List ℕ). xs ++ b) (f ∙ ap (λ (xs : List ℕ). xs ++ byte ∷ []) e)
    ∙ append_assoc (old ++ a) (byte ∷ []) b
    ∙ append_assoc old a (byte ∷ b)

-- a lease's line, part by part
pub lease_built : (ip first last since until prefix : List ℕ)
    → (((((((codes "lease " ++ ip) ++ 32 ∷ first) ++ 32 ∷ last) ++ 32 ∷ since) ++ 32 ∷ until) ++ (32 ∷ [])) ++ prefix) ++ 10 ∷ []
    ≡ line (codes "lease" ∷ ip ∷ first ∷ last ∷ since ∷ until ∷ prefix ∷ [])
lease_built ip first last since until prefix = simp append_assoc

-- a plan's line behind what was there, part by part
pub plan_built : (old since until text : List ℕ)
    → ((old ++ (codes "plan " ++ since ++ 32 ∷ (until ++ 32 ∷ []))) ++ text) ++ 10 ∷ []
    ≡ old ++ line (codes "plan" ∷ since ∷ until ∷ text ∷ [])
plan_built old since until text = simp append_assoc

-- what stands behind the last plan of a list
pub plans_next : (plans : List PlanRow) (k : ℕ) (last : PlanRow) → k < length plans
    → plan_lines (take (k + 1) plans) ≡ plan_lines (take k plans) ++ plan_line (get_or plans k last)
plans_next plans k last inside =
    ap (λ (ps : List PlanRow). plan_lines ps) (take_more plans k last inside)
    ∙ flat_map-append plan_line (take k plans) (get_or plans k last ∷ [])
    ∙ ap (λ (l : List ℕ). plan_lines (take k plans) ++ l) (append-nil (plan_line (get_or plans k last)))

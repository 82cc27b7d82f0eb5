-- Rows of different keys and places stay so.
use Rattle.std.proofs.Common.{◌≡◌, ℕ, zero, suc, Bool, true, false, not, cond, ◌&&◌, ◌||◌, List, [], ◌∷◌, ◌++◌, refl, ap, ◌∙◌, arith}
use Rattle.std.specs.Prelude.{◌==◌}
use Rattle.std.specs.List.{list_any}
use Rattle.std.proofs.lemmas.Bool.{and_parts, or_parts}
use Rattle.std.proofs.lemmas.Bool.Decides.{nat_tests}
use Rattle.std.proofs.lemmas.List.Folds.{list_any-append}
use Rattle.aftr_base.specs.Value.{key_eq, place_eq, number_of}
use Rattle.aftr_base.specs.declared.value.Ext.{Ext}
use Rattle.aftr_base.specs.declared.value.InnerKey.{InnerKey}
use Rattle.nat_mapping.specs.declared.row.Peer.{Peer}
use Rattle.nat_mapping.specs.Rows.{Mapping, are_apart, expired, has_key, has_place, is_at, is_of, is_used, live_peers, touched_at, with_peer}

-- ---- equality is symmetric

eqb_swap : (a b : ℕ) → (a == b) ≡ (b == a)
eqb_swap a b = grind (arith, nat_tests)

and_both : (a b c d : Bool) → a ≡ c → b ≡ d → (a && b) ≡ (c && d)
and_both a b c d p q = cc

key_eq_swap : (a b : InnerKey) → key_eq a b ≡ key_eq b a
key_eq_swap a b =
    and_both _ _ _ _
    (and_both _ _ _ _ (and_both _ _ _ _ (eqb_swap a.softwire.0 b.softwire.0) (eqb_swap (number_of a.proto) (number_of b.proto)))
    (eqb_swap a.addr.0 b.addr.0))
    (eqb_swap a.port b.port)

place_eq_swap : (a b : Ext) → place_eq a b ≡ place_eq b a
place_eq_swap a b = and_both _ _ _ _ (eqb_swap a.addr.0 b.addr.0) (eqb_swap a.port b.port)

is_at_swap : (r s : Mapping) → is_at r.key.proto r.ext s ≡ is_at s.key.proto s.ext r
is_at_swap r s = and_both _ _ _ _ (eqb_swap (number_of r.key.proto) (number_of s.key.proto)) (place_eq_swap r.ext s.ext)

-- ---- one more row behind

three : (a b c a' b' c' : Bool) → (a ≡ false → a' ≡ false) → (b ≡ false → b' ≡ false) → (c ≡ true → c' ≡ true)
    → (not a && not b && c) ≡ true → (not a' && not b' && c') ≡ true
three true b c a' b' c' p q r h = cc
three false true c a' b' c' p q r h = cc
three false false c a' b' c' p q r h =
    and_both _ _ _ _ (and_both (not a') (not b') true true (ap not (p refl)) (ap not (q refl))) (r h)

none_behind : (p : Mapping → Bool) (rows : List Mapping) (s : Mapping) → p s ≡ false → list_any p rows ≡ false
    → list_any p (rows ++ s ∷ []) ≡ false
none_behind p rows s fails none =
    list_any-append p rows (s ∷ []) ∙ ap (λ b. b || (p s || false)) none ∙ ap (λ b. b || false) fails

pub apart_behind : (rows : List Mapping) (s : Mapping) → are_apart rows ≡ true → has_key s.key rows ≡ false
    → has_place s.key.proto s.ext rows ≡ false → are_apart (rows ++ s ∷ []) ≡ true
apart_behind [] s apart key place = refl
apart_behind (r ∷ rows) s apart key place =
    let keys = or_parts (key_eq s.key r.key) (has_key s.key rows) key in
    let places = or_parts (is_at s.key.proto s.ext r) (has_place s.key.proto s.ext rows) place in
    three (has_key r.key rows) (has_place r.key.proto r.ext rows) (are_apart rows) (has_key r.key (rows ++ s ∷ []))
    (has_place r.key.proto r.ext (rows ++ s ∷ [])) (are_apart (rows ++ s ∷ []))
    (λ none. none_behind (is_of r.key) rows s (key_eq_swap r.key s.key ∙ keys.0) none)
    (λ none. none_behind (is_at r.key.proto r.ext) rows s (is_at_swap r s ∙ places.0) none)
    (λ rest. apart_behind rows s rest keys.1 places.1)
    apart

-- ---- rows that were touched

any_touched : (p : Mapping → Bool) → ((r : Mapping) (peers : List Peer) → p (record r { peers = peers }) ≡ p r) → (at : ℕ) (q : Peer)
    (rows : List Mapping) → list_any p (touched_at at q rows) ≡ list_any p rows
any_touched p blind at q [] = refl
any_touched p blind zero q (r ∷ rows) = ap (λ b. b || list_any p rows) (blind r (with_peer q r.peers))
any_touched p blind (suc at) q (r ∷ rows) = ap (λ b. p r || b) (any_touched p blind at q rows)

pub apart_touched : (at : ℕ) (q : Peer) (rows : List Mapping) → are_apart (touched_at at q rows) ≡ are_apart rows
apart_touched at q [] = refl
apart_touched zero q (r ∷ rows) = refl
apart_touched (suc at) q (r ∷ rows) =
    and_both _ _ _ _
    (and_both _ _ _ _ (ap not (any_touched (is_of r.key) (λ s peers. refl) at q rows))
    (ap not (any_touched (is_at r.key.proto r.ext) (λ s peers. refl) at q rows)))
    (apart_touched at q rows)

-- ---- rows that are left

none_left_by : (p : Mapping → Bool) (b : Bool) (r s : Mapping) (left : List Mapping) → p s ≡ p r → p r ≡ false → list_any p left ≡ false
    → list_any p (cond b (s ∷ left) left) ≡ false
none_left_by p true r s left same fails none = ap (λ c. c || list_any p left) (same ∙ fails) ∙ none
none_left_by p false r s left same fails none = none

none_left : (p : Mapping → Bool) → ((r : Mapping) (peers : List Peer) → p (record r { peers = peers }) ≡ p r) → (now : ℕ) (rows : List Mapping)
    → list_any p rows ≡ false → list_any p (expired now rows) ≡ false
none_left p blind now [] none = refl
none_left p blind now (r ∷ rows) none =
    let parts = or_parts (p r) (list_any p rows) none in
    none_left_by p (is_used (live_peers now r)) r (live_peers now r) (expired now rows) (blind r (live_peers now r).peers) parts.0
    (none_left p blind now rows parts.1)

apart_left_by : (b : Bool) (s : Mapping) (left : List Mapping) (key place rest : Bool) → (key ≡ false → has_key s.key left ≡ false)
    → (place ≡ false → has_place s.key.proto s.ext left ≡ false) → (rest ≡ true → are_apart left ≡ true)
    → (not key && not place && rest) ≡ true → are_apart (cond b (s ∷ left) left) ≡ true
apart_left_by true s left key place rest p q r h =
    three key place rest (has_key s.key left) (has_place s.key.proto s.ext left) (are_apart left) p q r h
apart_left_by false s left key place rest p q r h = r ((and_parts (not key && not place) rest h).1)

pub apart_left : (now : ℕ) (rows : List Mapping) → are_apart rows ≡ true → are_apart (expired now rows) ≡ true
apart_left now [] apart = refl
apart_left now (r ∷ rows) apart =
    apart_left_by (is_used (live_peers now r)) (live_peers now r) (expired now rows) (has_key r.key rows) (has_place r.key.proto r.ext rows)
    (are_apart rows)
    (λ none. none_left (is_of r.key) (λ s peers. refl) now rows none)
    (λ none. none_left (is_at r.key.proto r.ext) (λ s peers. refl) now rows none)
    (λ rest. apart_left now rows rest)
    apart

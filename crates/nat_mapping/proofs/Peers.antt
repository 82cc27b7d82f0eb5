-- Peers that are put into their places.
use Rattle.std.proofs.Common.{◌≡◌, ℕ, zero, suc, ◌+◌, ◌<◌, Bool, true, false, cond, ◌||◌, List, [], ◌∷◌, ◌++◌, length, get_or, set, take, drop}
use Rattle.std.proofs.Common.{refl, sym, ap, ◌∙◌, arith, add-one, length-set}
use Rattle.std.proofs.lemmas.List.{set-get_or}
use Rattle.std.proofs.lemmas.List.Folds.{list_any_more}
use Rattle.std.proofs.Math.Bool.{or-true, or-false}
use Rattle.std.specs.Prelude.{map, if◌then◌else◌}
use Rattle.nat_mapping.specs.declared.row.Peer.{Peer}
use Rattle.nat_mapping.specs.Rows.{has_peer, same_peer, with_peer}

-- ---- a loop that puts each item through f in its place

-- the items, of which the first i went through f
abbrev pub put_through : {X : Type 0} → (X → X) → ℕ → List X → List X
put_through f i xs = map f (take i xs) ++ drop i xs

-- the item that comes next is as it was
pub put_through_next : {X : Type 0} (f : X → X) (i : ℕ) (xs : List X) (d : X) → i < length xs
    → get_or (put_through f i xs) i d ≡ get_or xs i d
put_through_next f zero xs d lt = refl
put_through_next f (suc i) [] d lt = refl
put_through_next f (suc i) (x ∷ xs) d lt = put_through_next f i xs d (omega arith)

put_through_suc : {X : Type 0} (f : X → X) (i : ℕ) (xs : List X) (d : X) → i < length xs
    → set (put_through f i xs) i (f (get_or xs i d)) ≡ put_through f (suc i) xs
put_through_suc f zero (x ∷ xs) d lt = refl
put_through_suc f (suc i) (x ∷ xs) d lt = ap (λ ys. f x ∷ ys) (put_through_suc f i xs d (omega arith))
put_through_suc f zero [] d lt = absurd (omega arith)
put_through_suc f (suc i) [] d lt = absurd (omega arith)

pub put_through_more : {X : Type 0} (f : X → X) (i : ℕ) (xs : List X) (d : X) → i < length xs
    → set (put_through f i xs) i (f (get_or xs i d)) ≡ put_through f (i + 1) xs
put_through_more f i xs d lt = rw add-one (put_through_suc f i xs d lt)

-- the loop's step, where the item there became y
pub put_through_step : {X : Type 0} (f : X → X) (i : ℕ) (xs ys : List X) (d y : X) → ys ≡ put_through f i xs → i < length xs
    → y ≡ f (get_or ys i d) → set ys i y ≡ put_through f (i + 1) xs
put_through_step f i xs ys d y so_far lt became =
    let there : get_or ys i d ≡ get_or xs i d = ap (λ l. get_or l i d) so_far ∙ put_through_next f i xs d lt in
    ap (λ l. set l i y) so_far ∙ ap (set (put_through f i xs) i) (became ∙ ap f there) ∙ put_through_more f i xs d lt

-- and where f leaves it as it was
pub put_through_same : {X : Type 0} (f : X → X) (i : ℕ) (xs ys : List X) (d : X) → ys ≡ put_through f i xs → i < length xs
    → get_or ys i d ≡ f (get_or ys i d) → ys ≡ put_through f (i + 1) xs
put_through_same f i xs ys d so_far lt same =
    sym (set-get_or ys i d) ∙ put_through_step f i xs ys d (get_or ys i d) so_far lt same

-- a peer takes the place of the one at its endpoint
abbrev pub replaced : Peer → Peer → Peer
replaced p q = if same_peer p q then p else q

replaced_by : (p q : Peer) (b : Bool) → same_peer p q ≡ b → cond b p q ≡ replaced p q
replaced_by p q b same = ap (λ (c : Bool). cond c p q) (sym same)

-- the peers ys while a loop goes over xs: the first i went through, and whether one of them was at the endpoint
pub record Replacing (p : Peer) (i : ℕ) (xs ys : List Peer) (met : Bool) : Type 0 where
  pub put : ys ≡ put_through (replaced p) i xs
  pub size : length ys ≡ length xs
  pub met_is : met ≡ has_peer p (take i xs)

-- what the loop reads is what was there
still_there : (p : Peer) (i : ℕ) (xs ys : List Peer) (met : Bool) (d : Peer) → Replacing p i xs ys met → i < length xs
    → get_or ys i d ≡ get_or xs i d
still_there p i xs ys met d was lt = ap (λ l. get_or l i d) was.put ∙ put_through_next (replaced p) i xs d lt

met_more : (p : Peer) (i : ℕ) (xs : List Peer) (d : Peer) (b : Bool) → i < length xs → same_peer p (get_or xs i d) ≡ b
    → (has_peer p (take i xs) || b) ≡ has_peer p (take (i + 1) xs)
met_more p i xs d b lt same =
    ap (λ c. has_peer p (take i xs) || c) (sym same) ∙ sym (list_any_more (same_peer p) xs i d lt)

pub replacing_hit : (p : Peer) (i : ℕ) (xs ys : List Peer) (met : Bool) (d : Peer) → Replacing p i xs ys met → i < length xs
    → same_peer p (get_or ys i d) ≡ true → Replacing p (i + 1) xs (set ys i p) true
replacing_hit p i xs ys met d was lt same =
    let there = still_there p i xs ys met d was lt in
    record {
      put = put_through_step (replaced p) i xs ys d p was.put lt (replaced_by p (get_or ys i d) true same);
      size = length-set ys i p ∙ was.size;
      met_is = sym (or-true (has_peer p (take i xs)))
          ∙ met_more p i xs d true lt (ap (same_peer p) (sym there) ∙ same);
    }

pub replacing_missed : (p : Peer) (i : ℕ) (xs ys : List Peer) (met : Bool) (d : Peer) → Replacing p i xs ys met → i < length xs
    → same_peer p (get_or ys i d) ≡ false → Replacing p (i + 1) xs ys met
replacing_missed p i xs ys met d was lt other =
    let there = still_there p i xs ys met d was lt in
    record {
      put = put_through_same (replaced p) i xs ys d was.put lt (replaced_by p (get_or ys i d) false other);
      size = was.size;
      met_is = was.met_is ∙ sym (or-false (has_peer p (take i xs)))
          ∙ met_more p i xs d false lt (ap (same_peer p) (sym there) ∙ other);
    }

-- where none is at the endpoint all stay
kept_by : (p q : Peer) (b rest : Bool) (qs qs' : List Peer) → (b || rest) ≡ false → (rest ≡ false → qs ≡ qs')
    → cond b p q ∷ qs ≡ q ∷ qs'
kept_by p q true rest qs qs' none later = cc
kept_by p q false rest qs qs' none later = ap (λ (l : List Peer). q ∷ l) (later none)

none_replaced : (p : Peer) (qs : List Peer) → has_peer p qs ≡ false → map (replaced p) qs ≡ qs
none_replaced p [] none = refl
none_replaced p (q ∷ qs) none = kept_by p q (same_peer p q) (has_peer p qs) (map (replaced p) qs) qs none (λ h. none_replaced p qs h)

pub put_there : (p : Peer) (qs : List Peer) → has_peer p qs ≡ true → map (replaced p) qs ≡ with_peer p qs
put_there p qs there = sym (ap (λ (b : Bool). cond b (map (replaced p) qs) (qs ++ p ∷ [])) there)

pub put_behind : (p : Peer) (qs : List Peer) → has_peer p qs ≡ false → map (replaced p) qs ++ p ∷ [] ≡ with_peer p qs
put_behind p qs none =
    ap (λ (l : List Peer). l ++ p ∷ []) (none_replaced p qs none)
    ∙ sym (ap (λ (b : Bool). cond b (map (replaced p) qs) (qs ++ p ∷ [])) none)

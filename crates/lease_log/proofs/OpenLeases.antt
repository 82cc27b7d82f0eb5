-- Open leases that share no port: at most one is that of a block.
use Rattle.std.proofs.Common.{◌≡◌, inl, inr, ℕ, suc, ◌<◌, ◌≤◌, Bool, true, false, List, [], ◌∷◌, length, get_or, All, AllPairs}
use Rattle.std.proofs.Common.{refl, sym, ◌∙◌, subst, arith, true≢false}
use Rattle.std.specs.Prelude.{◌&&◌, ◌==◌, nat_le}
use Rattle.std.specs.List.{list_any}
use Rattle.std.proofs.lemmas.Bool.{and_parts, and_from, or_cases, cases_order, eqb-true, eq-eqb, le-leb}
use Rattle.aftr_base.specs.Row.{is_open, overlaps}
use Rattle.aftr_base.specs.Telling.{is_lease_of}
use Rattle.aftr_base.specs.Value.{ip4_eq, subscriber_eq}
use Rattle.aftr_base.specs.declared.value.Ip4.{Ip4}
use Rattle.aftr_base.specs.declared.value.Subscriber.{Subscriber}
use Rattle.aftr_base.specs.declared.row.LeaseRow.{LeaseRow}
use Rattle.lease_log.specs.Sound.{clash}

-- ---- tests over a list

-- where one passes, and where it stands
pub any_at : {X : Type 0} (p : X → Bool) (xs : List X) → list_any p xs ≡ true
    → (i : ℕ) × (i < length xs) × ((d : X) → p (get_or xs i d) ≡ true)
any_at p [] h = cc
any_at p (x ∷ xs) h = elim (or_cases (p x) (list_any p xs) h) [
  | inl here ↦ (0, omega arith, λ d. here)
  | inr later ↦ let rest = any_at p xs later in (suc rest.0, omega (arith, rest.1), λ d. rest.2 d)
]

-- what one of those that pass has, each has, where no two pass
pub one_any : {X : Type 0} (p q : X → Bool) (xs : List X) → AllPairs (λ x y. (p x && p y) ≡ false) xs
    → list_any (λ x. p x && q x) xs ≡ true → All (λ x. p x ≡ true → q x ≡ true) xs
one_any p q xs apart any j d within is =
    let found = any_at (λ x. p x && q x) xs any in
    let here = and_parts (p (get_or xs found.0 d)) (q (get_or xs found.0 d)) (found.2 d) in
    elim (cases_order found.0 j) [
      | inl same ↦ subst (λ (k : ℕ). q (get_or xs k d) ≡ true) same here.1
      | inr other ↦ elim other [
        | inl before ↦ never here.0 is (apart found.0 j d before within)
        | inr after ↦ never is here.0 (apart j found.0 d after found.1)
      ]
    ]
  where
    never : {C : Type 0} {a b : Bool} → a ≡ true → b ≡ true → (a && b) ≡ false → C
    never {C} {a} {b} x y e = absurd (true≢false (sym (and_from a b x y) ∙ e))

-- ---- two leases

-- the lease of a block, as its parts
pub record IsLeaseOf (owner : Subscriber) (addr : Ip4) (first last : ℕ) (l : LeaseRow) : Type 0 where
  pub stands : is_open l ≡ true
  pub same_owner : subscriber_eq owner l.owner ≡ true
  pub same_addr : addr.0 ≡ l.addr.0
  pub same_first : first ≡ l.first
  pub same_last : last ≡ l.last

pub lease_parts : (owner : Subscriber) (addr : Ip4) (first last : ℕ) (l : LeaseRow) → is_lease_of owner addr first last l ≡ true
    → IsLeaseOf owner addr first last l
lease_parts owner addr first last l h =
    let p₁ = and_parts (is_open l && subscriber_eq owner l.owner && ip4_eq addr l.addr && first == l.first) (last == l.last) h in
    let p₂ = and_parts (is_open l && subscriber_eq owner l.owner && ip4_eq addr l.addr) (first == l.first) p₁.0 in
    let p₃ = and_parts (is_open l && subscriber_eq owner l.owner) (ip4_eq addr l.addr) p₂.0 in
    let p₄ = and_parts (is_open l) (subscriber_eq owner l.owner) p₃.0 in
    record {
      stands = p₄.0;
      same_owner = p₄.1;
      same_addr = eqb-true addr.0 l.addr.0 p₃.1;
      same_first = eqb-true first l.first p₂.1;
      same_last = eqb-true last l.last p₁.1;
    }

pub clashes : (l m : LeaseRow) → is_open l ≡ true → is_open m ≡ true → l.addr.0 ≡ m.addr.0 → l.first ≤ m.last → m.first ≤ l.last
    → clash l m ≡ true
clashes l m l_open m_open addr l_first m_first =
    let share = and_from (ip4_eq l.addr m.addr && nat_le l.first m.last) (nat_le m.first l.last)
    (and_from (ip4_eq l.addr m.addr) (nat_le l.first m.last) (eq-eqb l.addr.0 m.addr.0 addr) (le-leb l.first m.last l_first))
    (le-leb m.first l.last m_first) in
    and_from (is_open l && is_open m) (overlaps l m.addr m.first m.last) (and_from (is_open l) (is_open m) l_open m_open) share

not_both : (a b c : Bool) → (a ≡ true → b ≡ true → c ≡ true) → c ≡ false → (a && b) ≡ false
not_both true true c h e = sym (h refl refl) ∙ e
not_both true false c h e = refl
not_both false b c h e = refl

-- two that share no port aren't both that of a block
pub not_both_leases : (owner : Subscriber) (addr : Ip4) (first last : ℕ) (l m : LeaseRow) → l.first ≤ l.last → clash l m ≡ false
    → (is_lease_of owner addr first last l && is_lease_of owner addr first last m) ≡ false
not_both_leases owner addr first last l m ports apart =
    not_both (is_lease_of owner addr first last l) (is_lease_of owner addr first last m) (clash l m)
    (λ is_l is_m. let x = lease_parts owner addr first last l is_l in let y = lease_parts owner addr first last m is_m in
    clashes l m x.stands y.stands (omega (arith, x.same_addr, y.same_addr))
    (omega (arith, ports, x.same_first, x.same_last, y.same_first, y.same_last))
    (omega (arith, ports, x.same_first, x.same_last, y.same_first, y.same_last))) apart

-- one at most is that of a block
pub one_lease : (owner : Subscriber) (addr : Ip4) (first last : ℕ) (leases : List LeaseRow)
    → All (λ (l : LeaseRow). l.first ≤ l.last) leases
    → AllPairs (λ l m. clash l m ≡ false) leases
    → AllPairs (λ l m. (is_lease_of owner addr first last l && is_lease_of owner addr first last m) ≡ false) leases
one_lease owner addr first last leases ports apart i j d before within =
    not_both_leases owner addr first last (get_or leases i d) (get_or leases j d) (ports i d (omega arith)) (apart i j d before within)

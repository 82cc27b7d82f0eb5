-- Steps of an arrival, one behind the other.
use Rattle.std.proofs.Common.{◌≡◌, ℕ, Bool, true, false, List, Option, Some, None, refl, sym, ap, ◌∙◌, subst}
use Rattle.std.specs.Prelude.{Result, Ok, Err, IfOk, IfSome, IsErrAnd, if◌then◌else◌}
use Rattle.aftr_base.specs.declared.event.DropCause.{DropCause}
use Rattle.frag_reasm.specs.declared.pieces.PartialDatagram.{PartialDatagram}
use Rattle.frag_reasm.specs.declared.key.PieceKey.{PieceKey}
use Rattle.wire_ip4.specs.Grammar.{Header, is_piece}
use Rattle.ingress.specs.Arrival.{Arrival, Tells, brings, refuses, then_receive, tried}
use Rattle.ingress.specs.Ip4.{joined, piece_in, whole_of}
use Rattle.ingress.specs.Laws.{Has}
use Rattle.ingress.specs.declared.refusal.Refusal.{Refusal}

-- ---- what holds of the pieces, and of what is brought

module _ {A : Type 0} (K : List PartialDatagram → Type 0) (P : A → Type 0) where
  pub has_brought : (kept : List PartialDatagram) (x : A) → K kept → P x → Has K P (brings kept x)
  has_brought kept x all is = record { kept = all; brings = λ y e. let same : x ≡ y = cc in subst P same is }

  pub has_refused : (kept : List PartialDatagram) (cause : DropCause) → K kept → Has K P (refuses kept cause)
  has_refused kept cause all = record { kept = all; brings = λ y e. cc }

  pub has_tried : (kept : List PartialDatagram) (r : Result A DropCause) → K kept → ((x : A) → r ≡ Ok x → P x) → Has K P (tried kept r)
  has_tried kept (Ok x) all is = has_brought kept x all (is x refl)
  has_tried kept (Err cause) all is = has_refused kept cause all

abbrev arrival : {A : Type 0} → List PartialDatagram → Result (Option A) DropCause → Arrival A
arrival kept brought = record { kept = kept; brought = brought }

module _ {A B : Type 0} (K : List PartialDatagram → Type 0) (P : A → Type 0) (Q : B → Type 0)
    (next : List PartialDatagram → A → Arrival B)
    (goes : (kept : List PartialDatagram) (x : A) → K kept → P x → Has K Q (next kept x)) where
  then_by : (kept : List PartialDatagram) (brought : Result (Option A) DropCause) → Has K P (arrival kept brought)
      → Has K Q (then_receive (arrival kept brought) next)
  then_by kept (Ok (Some x)) has = goes kept x has.kept (has.brings x refl)
  then_by kept (Ok None) has = record { kept = has.kept; brings = λ y e. cc }
  then_by kept (Err cause) has = has_refused K Q kept cause has.kept

  pub has_then : (a : Arrival A) → Has K P a → Has K Q (then_receive a next)
  has_then a has = then_by a.kept a.brought has

pub has_either : {A : Type 0} (K : List PartialDatagram → Type 0) (P : A → Type 0) (b : Bool) (x y : Arrival A)
    → (b ≡ true → Has K P x) → (b ≡ false → Has K P y) → Has K P (if b then x else y)
has_either K P true x y f g = f refl
has_either K P false x y f g = g refl

-- ---- what code answers

-- a packet that is no piece is whole
pub stays_whole : (key : PieceKey) (now : ℕ) (kept : List PartialDatagram) (read answer packet : Header × List ℕ)
    → is_piece read.0 ≡ false → answer ≡ read → read ≡ packet → brings kept answer ≡ whole_of key now kept packet
stays_whole key now kept read answer packet whole same is =
    let P : Header × List ℕ → Type 0 = λ p. brings kept answer ≡ whole_of key now kept p in
    subst P is (ap (brings kept) same
    ∙ ap (λ (b : Bool). if b then joined key now kept (piece_in read) else brings kept read) (sym whole))

-- what a step answers that comes behind one that refused nothing
pub goes_on : {A B : Type 0} (next : List PartialDatagram → A → Arrival B) (kept after : List PartialDatagram) (x : A)
    (tries : Result A DropCause) (r : Result (Option B) Refusal) → tries ≡ Ok x → Tells r after (next kept x)
    → Tells r after (then_receive (tried kept tries) next)
goes_on next kept after x tries r is tells =
    subst (λ (t : Result _ _). Tells r after (then_receive (tried kept t) next)) (sym is) tells

-- and behind two of which the first brought something
pub goes_through : {A B C : Type 0} (step : List PartialDatagram → A → Arrival B) (next : List PartialDatagram → B → Arrival C)
    (kept after : List PartialDatagram) (x : A) (a : Arrival A) (r : Result (Option C) Refusal) → brings kept x ≡ a
    → Tells r after (then_receive (step kept x) next) → Tells r after (then_receive (then_receive a step) next)
goes_through step next kept after x a r told tells =
    subst (λ (b : Arrival _). Tells r after (then_receive (then_receive b step) next)) told tells

-- a refusal that is handed on
pub handed_on : {A E : Type 0} (r : Result A E) (x : E) → IsErrAnd r (λ e. e ≡ x) → r ≡ Err x
handed_on (Ok y) x h = absurd h
handed_on (Err e) x h = ap (λ (f : _). Err f) h

-- what a call brought is what it should be
pub told_brings : {A : Type 0} (K : List PartialDatagram → Type 0) (P : A → Type 0) (r : Result (Option A) Refusal)
    (after : List PartialDatagram) (a : Arrival A) → Has K P a → Tells r after a → IfOk r (λ brought. IfSome brought P)
told_brings K P (Ok (Some x)) after a has told = has.brings x (sym (ap (λ (b : Arrival _). b.brought) told))
told_brings K P (Ok None) after a has told = tt
told_brings K P (Err refusal) after a has told = tt

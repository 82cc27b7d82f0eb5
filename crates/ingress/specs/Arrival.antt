-- What a record brought, and the pieces that are held then.
use Rattle.std.specs.Prelude.{◌≡◌, List, Option, Some, None, Result, Ok, Err}
use Rattle.aftr_base.specs.declared.event.DropCause.{DropCause}
use Rattle.frag_reasm.specs.declared.pieces.PartialDatagram.{PartialDatagram}
use Rattle.ingress.specs.declared.refusal.Refusal.{Refusal}
use Rattle.ingress.specs.declared.refusal.Refusal.TheVariants.{Dropped, NoMemory}

-- what a record brought, nothing where it was a piece that is held, and the pieces that are held then
pub record Arrival (A : Type 0) : Type 0 where
  pub kept : List PartialDatagram
  pub brought : Result (Option A) DropCause

abbrev pub brings : {A : Type 0} → List PartialDatagram → A → Arrival A
brings kept x = record { kept = kept; brought = Ok (Some x) }

abbrev pub refuses : {A : Type 0} → List PartialDatagram → DropCause → Arrival A
refuses kept cause = record { kept = kept; brought = Err cause }

-- a step that takes no piece
abbrev pub tried : {A : Type 0} → List PartialDatagram → Result A DropCause → Arrival A
tried kept (Ok x) = brings kept x
tried kept (Err cause) = refuses kept cause

-- the next step takes what was brought, where it is there, and the pieces that are held then
abbrev pub then_receive : {A B : Type 0} → Arrival A → (List PartialDatagram → A → Arrival B) → Arrival B
then_receive a next =
    elim a.brought [
      | Err cause ↦ refuses a.kept cause
      | Ok None ↦ record { kept = a.kept; brought = Ok None }
      | Ok (Some x) ↦ next a.kept x
    ]

-- the answer of a call that brought this
abbrev pub as_answer : {A : Type 0} → Result A DropCause → Result A Refusal
as_answer (Ok brought) = Ok brought
as_answer (Err cause) = Err (Dropped cause)

-- what a call answered and the pieces that it left, unless memory ran out
abbrev pub Tells : {A : Type 0} → Result (Option A) Refusal → List PartialDatagram → Arrival A → Type 0
Tells (Ok brought) kept a = record { kept = kept; brought = Ok brought } ≡ a
Tells (Err (Dropped cause)) kept a = record { kept = kept; brought = Err cause } ≡ a
Tells (Err NoMemory) kept a = Unit {0}

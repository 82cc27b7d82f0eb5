-- What a file is whose tail is known.
use Rattle.std.proofs.Common.{◌≡◌, ◌≢◌, ℕ, ◌+◌, List, ◌∷◌, ◌++◌, length, Ok, Err, Result, refl, sym, ◌∙◌, ap, subst, arith}
use Rattle.std.proofs.Common.{length-append}
use Rattle.std.specs.Prelude.{All}
use Rattle.std.proofs.Common.{inl, inr}
use Rattle.disk_journal.specs.Frames.{file_header, frames, IsMessage}
use Rattle.disk_journal.specs.Walk.{Walk, walk_of, EndsIn, IsWalkOf, StandsAt}
use Rattle.disk_journal.proofs.Spellings.{length-file_header}
use Rattle.disk_journal.proofs.Walks.{read_as_spelled, spelled_as_read}

-- the header and the frames of these messages
abbrev pub front_of : List (List ℕ) → List ℕ
front_of messages = file_header ++ frames messages

pub length-front_of : (messages : List (List ℕ)) → length (front_of messages) ≡ 16 + length (frames messages)
length-front_of messages = omega (arith, length-append file_header (frames messages), length-file_header)

-- the messages of a file
abbrev pub messages_in : List ℕ → List (List ℕ)
messages_in file = (walk_of file).messages

-- the file is those frames, then a closed gate, and the tail is the place behind it
pub record Stands (file : List ℕ) (tail : ℕ) : Type 0 where
  pub gate : ℕ
  pub behind : List ℕ
  pub closed : gate ≢ 1
  pub in_range : All IsMessage (messages_in file)
  pub split : file ≡ front_of (messages_in file) ++ gate ∷ behind
  pub place : tail ≡ length (front_of (messages_in file)) + 1

pub stands : (file : List ℕ) (tail : ℕ) → StandsAt file tail → Stands file tail
stands file tail end = by_walk (spelled_as_read file)
  where
    by_walk : IsWalkOf file (walk_of file) → Stands file tail
    by_walk (inl spells) =
        let here = subst (EndsIn spells.rest (16 + length (frames (messages_in file)))) end spells.end in
        record {
          gate = here.0;
          behind = here.1;
          closed = here.2;
          in_range = spells.in_range;
          split = spells.split ∙ ap (λ (l : List ℕ). front_of (messages_in file) ++ l) here.3;
          place = omega (arith, here.4, length-front_of (messages_in file));
        }
    by_walk (inr (none, is)) =
        let other : (let here : Result ℕ ℕ = Ok tail in here ≡ Err 0) = sym end ∙ ap (λ (w : Walk). w.end) is in
        cc

-- a file of these frames and a closed gate
pub walk_of_closed_log : (messages : List (List ℕ)) (gate : ℕ) (behind : List ℕ) → All IsMessage messages → gate ≢ 1
    → walk_of (front_of messages ++ gate ∷ behind) ≡ record { messages = messages; end = Ok (length (front_of messages) + 1) }
walk_of_closed_log messages gate behind in_range closed =
    read_as_spelled (front_of messages ++ gate ∷ behind) (record { messages = messages; end = Ok (length (front_of messages) + 1) })
    (record {
      rest = gate ∷ behind;
      in_range = in_range;
      split = refl;
      end = (gate, behind, closed, refl, omega (arith, length-front_of messages));
    })

-- the whole walk of a file whose tail is known
pub walk_is : (file : List ℕ) (tail : ℕ) → StandsAt file tail → walk_of file ≡ record { messages = messages_in file; end = Ok tail }
walk_is file tail end = ap (λ (e : Result ℕ ℕ). let w : Walk = record { messages = messages_in file; end = e } in w) end

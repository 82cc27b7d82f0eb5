-- Lengths and parts of what spells a log.
use Rattle.std.proofs.Common.{◌≡◌, ℕ, ◌+◌, ◌-◌, List, [], ◌∷◌, ◌++◌, length, take, drop, refl, sym, ◌∙◌, ap, arith}
use Rattle.std.proofs.Common.{append_assoc, length-append}
use Rattle.std.proofs.lemmas.List.{take_at, drop_at}
use Rattle.aftr_base.specs.Bytes.{be32}
use Rattle.disk_journal.specs.Frames.{file_header, frame, frames, body_of, message_of, IsBody, IsMessage}

pub length-file_header : length file_header ≡ 16
unfolding file_header
length-file_header = refl

pub length-be32 : (n : ℕ) → length (be32 n) ≡ 4
unfolding be32
length-be32 n = refl

pub length-frame : (message : List ℕ) → length (frame message) ≡ 5 + length message
length-frame message = omega (arith, length-append (be32 (length message)) message, length-be32 (length message))

pub length-body_of : (message : List ℕ) → length (body_of message) ≡ 5 + length message
length-body_of message =
    omega (
      arith,
      length-append (be32 (length message) ++ message) (0 ∷ []),
      length-append (be32 (length message)) message,
      length-be32 (length message),
    )

-- one message more behind the others
pub frames-push : (messages : List (List ℕ)) (message rest : List ℕ)
    → frames (messages ++ message ∷ []) ++ rest ≡ frames messages ++ (frame message ++ rest)
frames-push [] message rest = ap (λ (l : List ℕ). l ++ rest) (append-none (frame message))
  where
    append-none : (l : List ℕ) → l ++ [] ≡ l
    append-none [] = refl
    append-none (x ∷ xs) = ap (λ (t : List ℕ). x ∷ t) (append-none xs)
frames-push (first ∷ messages) message rest =
    append_assoc (frame first) (frames (messages ++ message ∷ [])) rest
    ∙ ap (λ (l : List ℕ). frame first ++ l) (frames-push messages message rest)
    ∙ sym (append_assoc (frame first) (frames messages) (frame message ++ rest))

pub length-frames-push : (messages : List (List ℕ)) (message : List ℕ)
    → length (frames (messages ++ message ∷ [])) ≡ length (frames messages) + (5 + length message)
length-frames-push [] message = omega (arith, length-append (frame message) [], length-frame message)
length-frames-push (first ∷ messages) message =
    omega (
      arith,
      length-frames-push messages message,
      length-append (frame first) (frames (messages ++ message ∷ [])),
      length-append (frame first) (frames messages),
    )

-- the message in a body is the one that it was made of
pub message_of-body_of : (message : List ℕ) → message_of (body_of message) ≡ message
message_of-body_of message =
    let size : length (body_of message) - 1 - 4 ≡ length message = omega (arith, length-body_of message) in
    ap (λ (n : ℕ). take n (drop 4 (body_of message))) size
    ∙ ap (λ (l : List ℕ). take (length message) (drop 4 l)) (append_assoc (be32 (length message)) message (0 ∷ []))
    ∙ ap (λ (l : List ℕ). take (length message) l) (drop_at (be32 (length message)) (message ++ 0 ∷ []) 4 (length-be32 (length message)))
    ∙ take_at message (0 ∷ []) (length message) refl

-- a body that was made of a message in range
pub is_body : (message : List ℕ) → IsMessage message → IsBody (body_of message)
is_body message in_range =
    let back = sym (message_of-body_of message) in
    record {
      message = record { least = omega (arith, in_range.least, ap length back); most = omega (arith, in_range.most, ap length back) };
      spelled = ap body_of back;
    }

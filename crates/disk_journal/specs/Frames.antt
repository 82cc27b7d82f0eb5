-- How a log file is spelled: a header, then frames. A frame is a gate, the length of a message in 32 bits, the message,
-- and the next frame's gate. A gate of 1 is open, and every other value is closed.
use Rattle.std.specs.Prelude.{◌≡◌, ℕ, ◌-◌, ◌≤◌, List, [], ◌∷◌, ◌++◌, length, slice_range}
use Rattle.aftr_base.specs.Bytes.{be32}

-- the letters AFTRLOG, the number of the format, and eight zero bytes
unfoldable pub file_header : List ℕ
file_header = 65 ∷ 70 ∷ 84 ∷ 82 ∷ 76 ∷ 79 ∷ 71 ∷ 1 ∷ 0 ∷ 0 ∷ 0 ∷ 0 ∷ 0 ∷ 0 ∷ 0 ∷ 0 ∷ []

-- the header and a closed gate
abbrev pub empty_log : List ℕ
empty_log = file_header ++ 0 ∷ []

-- a frame may have a message of this length
pub record IsMessage (message : List ℕ) : Type 0 where
  pub least : 16 ≤ length message
  pub most : length message ≤ 65535

-- a frame with an open gate, but for the gate behind it
abbrev pub frame : List ℕ → List ℕ
frame message = 1 ∷ be32 (length message) ++ message

-- the frames of these messages
abbrev pub frames : List (List ℕ) → List ℕ
frames [] = []
frames (message ∷ messages) = frame message ++ frames messages

-- what stands behind a gate: the rest of its frame, and the next gate, closed
abbrev pub body_of : List ℕ → List ℕ
body_of message = be32 (length message) ++ message ++ 0 ∷ []

-- the message in such a body
abbrev pub message_of : List ℕ → List ℕ
message_of body = slice_range body 4 (length body - 1)

pub record IsBody (body : List ℕ) : Type 0 where
  pub message : IsMessage (message_of body)
  pub spelled : body ≡ body_of (message_of body)

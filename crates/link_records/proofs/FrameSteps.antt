-- How the records of an input follow one another, and what the bytes behind a record change: nothing.
use Rattle.std.proofs.Common.{◌≡◌, ℕ, zero, suc, ◌+◌, ◌-◌, ◌≤◌, ◌==◌, Bool, true, false, not, ◌&&◌, ◌||◌, nat_le, List, [], ◌∷◌, ◌++◌}
use Rattle.std.proofs.Common.{length, drop, take, slice_range, Option, Some, None, option_map, if◌then◌else◌, ◌⊎◌, inl, inr, refl, sym}
use Rattle.std.proofs.Common.{ap, ◌∙◌, arith}
use Rattle.std.proofs.lemmas.Bool.Decides.{nat_tests}
use Rattle.std.proofs.lemmas.List.{append-nil, drop-append-le, drop_at, take-append-le, take-append-drop, length-drop, length-append}
use Rattle.std.proofs.lemmas.List.{length-take-le, get_or_append_left}
use Rattle.std.specs.Int.{w32, w64, from_be_bytes}
use Rattle.aftr_base.specs.Bytes.{u8_at, u32_at, u64_at}
use Rattle.aftr_base.specs.Value.{is_within, moment}
use Rattle.aftr_base.specs.declared.event.Event.{Event}
use Rattle.aftr_base.specs.declared.event.EventKind.{EventKind}
use Rattle.link_records.specs.declared.front.Head.{Head}
use Rattle.link_records.specs.Front.{IsHead, event_of}
use Rattle.aftr_base.specs.Limits.{moment_limit}
use Rattle.link_records.specs.Frames.{event_at, frame_len, frames_from, input_limit, is_frame, is_whole, kind_of}
use Rattle.link_records.specs.Frames.{records_from, stop_at, with_event}

-- ---- one record after another

sound_by : (sound : Bool) (made : Option Event) (e : Event) → (if sound then made else None) ≡ Some e → sound ≡ true
sound_by true made e is = refl
sound_by false made e is = cc

whole_by : (whole a b c d : Bool) → (whole && a && b && c && d) ≡ true → whole ≡ true
whole_by true a b c d is = refl
whole_by false a b c d is = is

long_by : (n : ℕ) (bytes : List ℕ) → (nat_le 4 (length bytes) && is_within 9 65584 n && nat_le (4 + n) (length bytes)) ≡ true
    → (13 ≤ 4 + n) × (4 + n ≤ length bytes)
long_by n bytes is = grind (arith, nat_tests)

-- a record takes its 13 bytes up to its body, at least, and no more than there are
pub event_takes : (at : ℕ) (bytes : List ℕ) (e : Event) → event_at at bytes ≡ Some e
    → (13 ≤ frame_len bytes) × (frame_len bytes ≤ length bytes)
event_takes at bytes e is =
    long_by (u32_at 0 bytes) bytes (whole_by (is_whole bytes) _ _ _ _ (sound_by (is_frame at bytes) _ e is))

one_or_none : (o : Option Event) → (o ≡ None) ⊎ ((e : Event) × (o ≡ Some e))
one_or_none None = inl refl
one_or_none (Some e) = inr (e, refl)

records_next : (n at : ℕ) (bytes : List ℕ) (e : Event) → event_at at bytes ≡ Some e
    → records_from (suc n) at bytes ≡ with_event e (records_from n (at + frame_len bytes) (drop (frame_len bytes) bytes))
records_next n at bytes e is = rw (is, records_from) refl

records_none : (n at : ℕ) (bytes : List ℕ) → event_at at bytes ≡ None
    → records_from n at bytes ≡ record { events = []; stop = stop_at at bytes }
records_none zero at bytes is = refl
records_none (suc n) at bytes is = rw (is, records_from) refl

-- more steps than bytes change nothing
enough : (n m at : ℕ) (bytes : List ℕ) → length bytes ≤ n → length bytes ≤ m → records_from n at bytes ≡ records_from m at bytes
enough zero m at [] short short' = sym (records_none m at [] refl)
enough zero m at (b ∷ bytes) short short' = absurd (omega arith)
enough (suc n) zero at [] short short' = records_none (suc n) at [] refl
enough (suc n) zero at (b ∷ bytes) short short' = absurd (omega arith)
enough (suc n) (suc m) at bytes short short' = elim (one_or_none (event_at at bytes)) [
  | inl none ↦ records_none (suc n) at bytes none ∙ sym (records_none (suc m) at bytes none)
  | inr some ↦
      let long = event_takes at bytes some.0 some.1 in
      let len = length-drop (frame_len bytes) bytes in
      records_next n at bytes some.0 some.1
      ∙ ap (with_event some.0) (enough n m (at + frame_len bytes) (drop (frame_len bytes) bytes) (omega arith) (omega arith))
      ∙ sym (records_next m at bytes some.0 some.1)
]

-- the records from one record on
pub next_record : (at : ℕ) (bytes : List ℕ) (e : Event) → event_at at bytes ≡ Some e
    → frames_from at bytes ≡ with_event e (frames_from (at + frame_len bytes) (drop (frame_len bytes) bytes))
next_record at bytes e is =
    let long = event_takes at bytes e is in
    let len = length-drop (frame_len bytes) bytes in
    enough (length bytes) (suc (length bytes)) at bytes (omega arith) (omega arith)
    ∙ records_next (length bytes) at bytes e is
    ∙ ap (with_event e)
    (enough (length bytes) (length (drop (frame_len bytes) bytes)) (at + frame_len bytes) (drop (frame_len bytes) bytes)
    (omega arith) (omega arith))

-- the records from where none stands on
pub no_record : (at : ℕ) (bytes : List ℕ) → event_at at bytes ≡ None
    → frames_from at bytes ≡ record { events = []; stop = stop_at at bytes }
no_record at bytes is = records_none (length bytes) at bytes is

-- ---- the bytes behind a record

range_front : (i j : ℕ) (bytes rest : List ℕ) → i ≤ j → j ≤ length bytes → slice_range (bytes ++ rest) i j ≡ slice_range bytes i j
range_front i j bytes rest ordered within =
    ap (take (j - i)) (drop-append-le i bytes rest (omega arith))
    ∙ take-append-le (j - i) (drop i bytes) rest (omega (arith, length-drop i bytes))

u32_front : (bytes rest : List ℕ) → 4 ≤ length bytes → u32_at 0 (bytes ++ rest) ≡ u32_at 0 bytes
u32_front bytes rest long = ap (from_be_bytes w32) (range_front 0 4 bytes rest (omega arith) long)

whole_front : (n len len' : ℕ) → 4 ≤ len → 4 + n ≤ len → len ≤ len'
    → (nat_le 4 len' && is_within 9 65584 n && nat_le (4 + n) len') ≡ (nat_le 4 len && is_within 9 65584 n && nat_le (4 + n) len)
whole_front n len len' long within more = grind (arith, nat_tests)

-- the event by the parts of its frame
abbrev event_by : ℕ → Bool → ℕ → ℕ → ℕ → List ℕ → Option Event
event_by at whole n kind time body =
    if whole && nat_le (at + (4 + n)) input_limit && is_within 1 4 kind && (not (kind == 3) || n == 9) && nat_le time moment_limit
    then option_map (λ (k : EventKind). record { kind = k; at = moment time; bytes = body }) (kind_of kind) else None

same_event : (at : ℕ) (whole whole' : Bool) (n n' kind kind' time time' : ℕ) (body body' : List ℕ)
    → whole ≡ whole' → n ≡ n' → kind ≡ kind' → time ≡ time' → body ≡ body'
    → event_by at whole n kind time body ≡ event_by at whole' n' kind' time' body'
same_event at whole whole' n n' kind kind' time time' body body' e₁ e₂ e₃ e₄ e₅ =
    ap (λ (w : Bool). event_by at w n kind time body) e₁
    ∙ ap (λ (m : ℕ). event_by at whole' m kind time body) e₂
    ∙ ap (λ (m : ℕ). event_by at whole' n' m time body) e₃
    ∙ ap (λ (m : ℕ). event_by at whole' n' kind' m body) e₄
    ∙ ap (λ (l : List ℕ). event_by at whole' n' kind' time' l) e₅

event_front : (at : ℕ) (bytes rest : List ℕ) → 13 ≤ frame_len bytes → frame_len bytes ≤ length bytes
    → event_at at (bytes ++ rest) ≡ event_at at bytes
event_front at bytes rest long within =
    let len = u32_front bytes rest (omega arith) in
    let more : length bytes ≤ length (bytes ++ rest) = omega (arith, length-append bytes rest) in
    same_event at (is_whole (bytes ++ rest)) (is_whole bytes) (u32_at 0 (bytes ++ rest)) (u32_at 0 bytes) (u8_at 4 (bytes ++ rest))
    (u8_at 4 bytes)
    (u64_at 5 (bytes ++ rest)) (u64_at 5 bytes) (slice_range (bytes ++ rest) 13 (frame_len (bytes ++ rest)))
    (slice_range bytes 13 (frame_len bytes))
    (ap (λ (n : ℕ). nat_le 4 (length (bytes ++ rest)) && is_within 9 65584 n && nat_le (4 + n) (length (bytes ++ rest))) len
    ∙ whole_front (u32_at 0 bytes) (length bytes) (length (bytes ++ rest)) (omega arith) within more)
    len
    (get_or_append_left bytes rest 0 4 (omega arith))
    (ap (from_be_bytes w64) (range_front 5 13 bytes rest (omega arith) (omega arith)))
    (ap (λ (n : ℕ). slice_range (bytes ++ rest) 13 (4 + n)) len ∙ range_front 13 (frame_len bytes) bytes rest long within)

-- a record stands at the front of its own bytes, whatever comes behind them
pub record_alone : (at : ℕ) (left tail : List ℕ) (e : Event) → event_at at left ≡ Some e
    → frames_from at (take (frame_len left) left ++ tail) ≡ with_event e (frames_from (at + frame_len left) tail)
record_alone at left tail e is =
    let n : ℕ = frame_len left in
    let takes = event_takes at left e is in
    let front : List ℕ = take n left in
    let long : length front ≡ n = length-take-le n left takes.1 in
    let whole : front ++ drop n left ≡ left = take-append-drop n left in
    let len : frame_len front ≡ n = sym (ap (λ (m : ℕ). 4 + m) (u32_front front (drop n left) (omega (arith, takes.0, long))))
    ∙ ap frame_len whole in
    let here : event_at at front ≡ Some e =
    sym (event_front at front (drop n left) (omega (arith, takes.0, len)) (omega (arith, long, len))) ∙ ap (event_at at) whole ∙ is in
    let there : event_at at (front ++ tail) ≡ Some e = event_front at front tail (omega (arith, takes.0, len))
    (omega (arith, long, len)) ∙ here in
    let same : frame_len (front ++ tail) ≡ n = ap (λ (m : ℕ). 4 + m) (u32_front front tail (omega (arith, takes.0, long))) ∙ len in
    next_record at (front ++ tail) e there
    ∙ ap (λ (m : ℕ). with_event e (frames_from (at + m) (drop m (front ++ tail)))) same
    ∙ ap (λ (l : List ℕ). with_event e (frames_from (at + n) l)) (drop_at front tail n long)

-- the record at the front of the bytes at hand is the next of all that are left
pub takes_record : (at at' : ℕ) (bytes rest left window : List ℕ) (head : Head) (e : Event) → IsHead at bytes head → at ≡ at'
    → bytes ++ rest ≡ left
    → window ≡ drop head.len bytes → e ≡ event_of bytes head
    → (event_at at' left ≡ Some e) × (window ++ rest ≡ drop (frame_len left) left) × (at + head.len ≡ at' + frame_len left)
takes_record at at' bytes rest left window head e is same all passed made =
    let len : frame_len left ≡ head.len = ap frame_len (sym all)
    ∙ ap (λ (n : ℕ). 4 + n) (u32_front bytes rest (omega (arith, is.longer, is.within))) ∙ is.len in (
      ap (λ (n : ℕ). event_at n left) (sym same) ∙ ap (event_at at) (sym all)
          ∙ event_front at bytes rest (omega (arith, is.longer, is.len)) (omega (arith, is.within, is.len)) ∙ is.event ∙ ap Some (sym made),
      ap (λ (l : List ℕ). l ++ rest) passed ∙ sym (drop-append-le head.len bytes rest is.within) ∙ ap (drop head.len) all
          ∙ ap (λ (n : ℕ). drop n left) (sym len),
      omega (arith, same, len),
    )

-- where all that is left is at hand, and no record stands there
pub none_is_left : (at : ℕ) (bytes rest left : List ℕ) → bytes ++ rest ≡ left → rest ≡ [] → event_at at bytes ≡ None
    → event_at at left ≡ None
none_is_left at bytes rest left all none is =
    ap (event_at at) (sym all ∙ ap (λ (l : List ℕ). bytes ++ l) none ∙ append-nil bytes) ∙ is

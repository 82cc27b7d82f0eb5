-- The bytes of a buffer, after a read past its end or a step of its start.
use Rattle.std.proofs.Common.{◌≡◌, ℕ, ◌+◌, ◌-◌, ◌≤◌, List, ◌++◌, length, take, drop, slice_range, refl, sym, ap, ◌∙◌, arith, append_assoc}
use Rattle.std.proofs.lemmas.List.{take_at, drop_at, take-append-le, drop-take, drop-drop, length-take, length-take-le}
use borrow.Rule.Slice.PartMut.{put_mid, post_of}
use Rattle.std.specs.Prelude.{IfOk, Result, Ok, Err}
use Rattle.plant_io.specs.Source.{TakesNext}
use Rattle.plant_io.specs.declared.Failed.{Failed}
use lib.Seq.{take-add}

pub passed : (bytes : List ℕ) (first end count : ℕ) → count ≤ length (slice_range bytes first end)
    → slice_range bytes (first + count) end ≡ drop count (slice_range bytes first end)
passed bytes first end count inside =
    let within : count ≤ end - first = omega (arith, inside, length-take (end - first) (drop first bytes)) in
    let parts : end - first ≡ count + (end - (first + count)) = omega arith in
    sym (ap (λ (n : ℕ). drop count (take n (drop first bytes))) parts ∙ drop-take count _ (drop first bytes)
    ∙ ap (take (end - (first + count))) (drop-drop count first bytes))

-- a read into the part from `end` on takes its bytes from what was left
pub read_on : (bytes part : List ℕ) (end room count : ℕ) (rest rest' : List ℕ) → end ≤ length bytes → count ≤ length part
    → rest ≡ take count part ++ rest'
    → take (end + count) (put_mid end room bytes part) ++ rest' ≡ take end bytes ++ rest
read_on bytes part end room count rest rest' within fits next =
    let front = take end bytes in
    let after = part ++ post_of end room bytes in
    let taken : take (end + count) (put_mid end room bytes part) ≡ front ++ take count part =
    take-add end count (front ++ after)
    ∙ (rw (
      take_at front after end (length-take-le end bytes within),
      drop_at front after end
          (length-take-le end bytes within),
      take-append-le count part (post_of end room bytes) fits,
    ) refl) in
    ap (λ (l : List ℕ). l ++ rest') taken ∙ append_assoc front (take count part) rest' ∙ ap (λ (l : List ℕ). front ++ l) (sym next)

pub read_on_if_ok : (bytes part : List ℕ) (end room : ℕ) (rest rest' taken taken' : List ℕ) (r : Result ℕ Failed) → end ≤ length bytes
    → IfOk r (λ (count : ℕ). count ≤ length part) → IfOk r (λ (count : ℕ). TakesNext rest rest' taken taken' (length part) count part)
    → IfOk r (λ (count : ℕ). take (end + count) (put_mid end room bytes part) ++ rest' ≡ take end bytes ++ rest)
read_on_if_ok bytes part end room rest rest' taken taken' (Ok count) within fits next =
    read_on bytes part end room count rest rest' within fits next.rest
read_on_if_ok bytes part end room rest rest' taken taken' (Err e) within fits next = tt

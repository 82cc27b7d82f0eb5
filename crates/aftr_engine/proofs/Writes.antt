-- Writes in a row to a sink.
use Rattle.std.proofs.Common.{◌≡◌, ℕ, ◌+◌, min, Result, Ok, Err, IsErr, List, [], ◌++◌, length, take, sym, ap, subst, ◌∙◌, append_assoc}
use Rattle.std.proofs.Common.{append-nil, arith}
use Rattle.std.proofs.lemmas.List.{take-append-le, take_min}
use Rattle.std.proofs.Math.Seq.{take-append-add}
use Rattle.plant_io.specs.Sink.{GainsPart}
use Rattle.plant_io.specs.Uses.{SinkUse, Writes, sink_use}
use Rattle.plant_io.specs.declared.sink.Sink as sink
use Rattle.plant_io.specs.declared.Failed.{Failed}

-- both pieces were written
both : (a b before then now : List ℕ) → then ≡ before ++ a → now ≡ then ++ b → now ≡ before ++ (a ++ b)
both a b before then now first second =
    second ∙ ap (λ (xs : List ℕ). xs ++ b) first ∙ append_assoc before a b

-- a part of the first of two pieces
pub part_of_first : (a b before now : List ℕ) → GainsPart a before now → GainsPart (a ++ b) before now
part_of_first a b before now part =
    let n : ℕ = min part.0 (length a) in
    let same : take n (a ++ b) ≡ take part.0 a = take-append-le n a b (omega arith) ∙ take_min part.0 a in
    (n, part.1 ∙ ap (λ (xs : List ℕ). before ++ xs) (sym same))

-- the first of two pieces and a part of the second
pub part_of_second : (a b before then now : List ℕ) → then ≡ before ++ a → GainsPart b then now
    → GainsPart (a ++ b) before now
part_of_second a b before then now first part = (
  length a + part.0,
  both a (take part.0 b) before then now first part.1 ∙ ap (λ (xs : List ℕ). before ++ xs) (sym (take-append-add a b part.0)),
)

-- the first piece failed, and so the whole did
pub first_failed : {T E F U : Type 0} (a b : List ℕ) {u : SinkUse} {e : F} (r : Result T E) → IsErr r
    → Writes {T = U} a u (Err e) → Writes (a ++ b) u r
first_failed a b (Ok x) is one = absurd (cc is)
first_failed a b {u} (Err e) is one = record {
  all = λ told. tt;
  part = λ told. part_of_first a b u.past u.now (one.part told);
  cause = record { later = one.cause.later; failed = one.cause.failed };
}

-- the first of three pieces failed
pub first_of_three : {T E F U : Type 0} (a b d : List ℕ) {u : SinkUse} {e : F} (r : Result T E) → IsErr r
    → Writes {T = U} a u (Err e) → Writes (a ++ b ++ d) u r
first_of_three a b d {u} r is one = subst (λ (text : List ℕ). Writes text u r) (sym (append_assoc a b d)) (first_failed a (b ++ d) r is one)

-- all of a text was written
abbrev pub HasWritten : List ℕ → SinkUse → Type 0
HasWritten text u = Writes {T = Unit {0}} {E = Failed} text u (Ok tt)

-- nothing was written yet
pub none_written : {S : Type 0} (g : sink.Ghosts S) (s : S) → HasWritten [] (sink_use g s s)
none_written g s = record {
  all = λ told. sym (append-nil (g.written s));
  part = λ told. tt;
  cause = record { later = omega arith; failed = tt };
}

-- one piece was written, and then the next, whole or in part
pub next_written : {S T E F U : Type 0} (g : sink.Ghosts S) (a b : List ℕ) (s₀ s₁ s₂ : S) {x : U} (r : Result T E)
    → Writes {E = F} a (sink_use g s₀ s₁) (Ok x) → Writes b (sink_use g s₁ s₂) r → Writes (a ++ b) (sink_use g s₀ s₂) r
next_written g a b s₀ s₁ s₂ (Ok y) one two = record {
  all = λ told. both a b (g.written s₀) (g.written s₁) (g.written s₂) (one.all told) (two.all told);
  part = λ told. tt;
  cause = record { later = omega (arith, one.cause.later, two.cause.later); failed = tt };
}
next_written g a b s₀ s₁ s₂ (Err e) one two = record {
  all = λ told. tt;
  part = λ told. part_of_second a b (g.written s₀) (g.written s₁) (g.written s₂) (one.all told) (two.part told);
  cause = record {
    later = omega (arith, one.cause.later, two.cause.later);
    failed = omega (arith, one.cause.later, two.cause.failed);
  };
}

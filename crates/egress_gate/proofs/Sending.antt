-- What an emission adds to what was sent.
use Rattle.std.proofs.Common.{◌≡◌, ℕ, List, ◌++◌, length, take, sym, ◌∙◌, ap, arith}
use Rattle.std.proofs.lemmas.List.{take_all}
use Rattle.plant_io.specs.Sink.{GainsPart}
use Rattle.plant_io.specs.Story.{Story, content, sent, emit_all, EmitsPart}
use Rattle.plant_io.proofs.Images.{content-emit_all, sent-emit_all}

pub sent_after : (before after : Story) (bytes past : List ℕ) → after ≡ emit_all bytes before → sent before ≡ past
    → sent after ≡ past ++ bytes
sent_after before after bytes past e p = ap sent e ∙ sent-emit_all bytes before ∙ ap (λ (l : List ℕ). l ++ bytes) p

pub content_after : (before after : Story) (bytes file : List ℕ) → after ≡ emit_all bytes before → content before ≡ file
    → content after ≡ file
content_after before after bytes file e p = ap content e ∙ content-emit_all bytes before ∙ p

pub gained_all : (bytes past now : List ℕ) → now ≡ past ++ bytes → GainsPart bytes past now
gained_all bytes past now e = (length bytes, e ∙ ap (λ (l : List ℕ). past ++ l) (sym (take_all (length bytes) bytes (omega arith))))

pub gained_part : (before after : Story) (bytes past : List ℕ) → EmitsPart bytes before after → sent before ≡ past
    → GainsPart bytes past (sent after)
gained_part before after bytes past (count, e) p = (count, sent_after before after (take count bytes) past e p)

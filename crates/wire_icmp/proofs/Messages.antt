-- What is read as a message is spelled so, and what is spelled so is read.
use Rattle.std.proofs.Common.{◌≡◌, ℕ, ◌≤◌, ◌<◌, ◌^◌, List, length, Ok, ap, ◌∙◌, arith, eq-eqb, length-drop}
use Rattle.std.proofs.lemmas.Bool.{le-leb}
use Rattle.aftr_base.specs.Bytes.{be16, IsBytes}
use Rattle.aftr_base.specs.Checksum.{sum16}
use Rattle.wire_ip4.proofs.Attempts.{passes}
use Rattle.wire_l4.specs.Grammar.{Echo, echo_of, echo_bytes}
use Rattle.wire_l4.proofs.Words.{word_back, word_fits}
use Rattle.wire_l4.proofs.Replacing.{echo_again}
use Rattle.wire_icmp.specs.declared.view.IcmpBad.TheVariants.{Short, Sum}
use Rattle.wire_icmp.specs.Grammar.{SpellsMessage, message_of}

pub echo_read : (e : Echo) → e.sum < 2 ^ 16 → e.id < 2 ^ 16 → echo_of (echo_bytes e) ≡ e
unfolding be16
echo_read e p q = λ i. record e { sum = word_back e.sum p i; id = word_back e.id q i }

pub echo_long : (e : Echo) → 2 ≤ length e.rest → 8 ≤ length (echo_bytes e)
unfolding be16
echo_long e some = omega arith

pub message_spelled : (bytes : List ℕ) → IsBytes bytes → 8 ≤ length bytes → sum16 bytes ≡ 65535 → SpellsMessage bytes (echo_of bytes)
message_spelled bytes fits whole sound = record {
  spelled = echo_again bytes fits whole;
  kind = fits 0;
  code = fits 1;
  sum = word_fits 2 bytes fits;
  id = word_fits 4 bytes fits;
  words = omega (arith, length-drop 6 bytes);
  sound = sound;
}

pub message_accepted : (bytes : List ℕ) (m : Echo) → SpellsMessage bytes m → message_of bytes ≡ Ok m
message_accepted bytes m h =
    let long = echo_long m h.words in
    let whole : 8 ≤ length bytes = omega (arith, ap length h.spelled, long) in
    passes Short _ (le-leb 8 (length bytes) whole)
    ∙ passes Sum _ (eq-eqb (sum16 bytes) 65535 h.sound)
    ∙ ap Ok (ap echo_of h.spelled ∙ echo_read m h.sum h.id)

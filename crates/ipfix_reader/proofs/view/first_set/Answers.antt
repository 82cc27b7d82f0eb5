use Rattle.std.proofs.Common.{◌≡◌, ◌-◌, List, ℕ, length, take, drop, sym, ap, subst, ◌∙◌, rules, arith}
use Rattle.std.specs.Prelude.{IsTrue}
use Rattle.std.proofs.lemmas.List.{take_rest}
use Rattle.aftr_base.specs.Bytes.{u16_at}
use Rattle.ipfix_writer.specs.Grammar.{is_set_id, IpfixSet, first_set}
use Rattle.ipfix_reader.specs.Reading.{SpellsFirst}
use Rattle.ipfix_reader.proofs.ReadingLaws.{set_there, set_read}
use Rattle.ipfix_reader.proofs.view.first_set.Goals as goal
use Rattle.ipfix_reader.proofs.view.first_set.Goals.{then-len-lt-SET_HEADER_LEN-via-then-len-lt-SET_HEADER_LEN}
use Rattle.ipfix_reader.proofs.view.first_set.Goals.{then-len-lt-SET_HEADER_LEN-via-else-len-lt-SET_HEADER_LEN+then-len-bytes}
use Rattle.ipfix_reader.proofs.view.first_set.Goals.{then-len-lt-SET_HEADER_LEN-via-else-len-lt-SET_HEADER_LEN+else-len-bytes+then-not-is_set_id}

pub returns-then-bytes-lt-SET_HEADER_LEN-clause-none : goal.returns-then-bytes-lt-SET_HEADER_LEN-clause-none
returns-then-bytes-lt-SET_HEADER_LEN-clause-none c begins =
    let long = (set_read c.args.bytes.now begins).0 in
    absurd (omega arith)

pub returns-then-len-lt-SET_HEADER_LEN-clause-none : goal.returns-then-len-lt-SET_HEADER_LEN-clause-none
returns-then-len-lt-SET_HEADER_LEN-clause-none c begins =
    let read = set_read c.args.bytes.now begins in
    let four = read.2 in
    let within = read.3 in
    let used : IsTrue (is_set_id c.u16_in-id.result) = subst (λ n. IsTrue (is_set_id n)) (sym c.u16_in-id.ensures) read.1 in
    elim c.then-len-lt-SET_HEADER_LEN.branch [
      | then-len-lt-SET_HEADER_LEN-via-then-len-lt-SET_HEADER_LEN w ↦ absurd (omega arith)
      | then-len-lt-SET_HEADER_LEN-via-else-len-lt-SET_HEADER_LEN+then-len-bytes w ↦ absurd (omega arith)
      | then-len-lt-SET_HEADER_LEN-via-else-len-lt-SET_HEADER_LEN+else-len-bytes+then-not-is_set_id w ↦ search rules
    ]

pub returns-clause-found : goal.returns-clause-found
returns-clause-found c =
    let bytes : List ℕ = c.args.bytes.now in
    let id : u16_at 0 bytes ≡ c.u16_in-id.result = sym c.u16_in-id.ensures in
    let len : u16_at 2 bytes ≡ c.from-len.result = search rules in
    let used : IsTrue (is_set_id c.u16_in-id.result) = search rules in
    let behind : drop (u16_at 2 bytes) bytes ≡ take (length bytes - c.from-len.result) (drop c.from-len.result bytes) =
    ap (λ n. drop n bytes) len ∙ sym (take_rest bytes c.from-len.result) in
    let s : first_set bytes ≡ record { id = c.u16_in-id.result; body = take (c.from-len.result - 4) (drop 4 bytes) } =
    λ i. record { id = id i; body = take (len i - 4) (drop 4 bytes) } in
    subst (λ rest. SpellsFirst bytes record { id = c.u16_in-id.result; body = take (c.from-len.result - 4) (drop 4 bytes) } rest) behind
    (subst (λ (t : IpfixSet). SpellsFirst bytes t (drop (u16_at 2 bytes) bytes)) s
    (set_there bytes (λ k. omega (arith, c.type_inv.bytes k)) (search rules) (search rules)
    (subst (λ n. IsTrue (is_set_id n)) (sym id) used)))

-- A draft whose bytes are lent.
use Rattle.std.specs.Prelude.{◌≡◌}
use Rattle.std.specs.Borrow.{MutBor, Fml}
use Rattle.std.specs.Io.BufRead.{Rests}
use Rattle.ipfix_writer.specs.contracts.message.Message.{the_row}
use Rattle.ipfix_writer.specs.Draft.{IpfixDraft}

-- the draft is what it was once its bytes are lent no more
abbrev pub StaysAsItWas : MutBor IpfixDraft → Fml
StaysAsItWas d = Rests the_row d (λ new. new ≡ d.now)

use Rattle.std.proofs.Common.{sym}
use Rattle.softwire.proofs.Cuts.{no_options}
use Rattle.softwire.proofs.tests.cut_unread.Goals as goal

pub cut_with-requires-clause-packet : goal.cut_with-requires-clause-packet
cut_with-requires-clause-packet c =
    let view = c.in-Ok.view in (
      view.0,
      view.1,
      sym c.fields.ensures.value,
      no_options view.0 c.has_options.result c.has_options.ensures c.if-has_options.false,
      c.in-Ok.ensures.spelled.spelled,
    )

use Rattle.std.proofs.Common.{sym}
use Rattle.icmp_xlate.proofs.Reading.{no_options}
use Rattle.icmp_xlate.proofs.tests.about.Goals as goal

pub make_error-requires : goal.make_error-requires
make_error-requires c =
    let view = c.in-Ok.view in
    record {
      packet = (
        view.0,
        view.1,
        sym c.in-Ok.ensures.value,
        no_options view.0 c.has_options.result c.has_options.ensures c.if-has_options.false,
      );
    }

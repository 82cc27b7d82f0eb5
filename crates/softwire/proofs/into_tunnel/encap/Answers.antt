use Rattle.softwire.proofs.TunnelLaws.{read_as, arrives}
use Rattle.softwire.proofs.into_tunnel.encap.Goals as goal

pub returns-clause-reads_back : goal.returns-clause-reads_back
returns-clause-reads_back c = read_as c.args.aftr c.args.softwire c.args.class c.args.inner.now c.write_header.ensures.reads_back

pub returns-clause-arrives : goal.returns-clause-arrives
returns-clause-arrives c =
    arrives c.args.aftr c.args.softwire c.args.class c.args.inner.now
    (read_as c.args.aftr c.args.softwire c.args.class c.args.inner.now c.write_header.ensures.reads_back)

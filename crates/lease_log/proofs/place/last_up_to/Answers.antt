use Rattle.lease_log.proofs.Places.{up_to, up_to_later, not_past}
use Rattle.lease_log.proofs.place.last_up_to.Goals as goal

pub returns-in-Some-clause-some : goal.returns-in-Some-clause-some
returns-in-Some-clause-some c =
    let part = c.range.ensures.in_range tt in
    let key = c.in-Some.field-0-0.now in
    let at = c.in-Some.at.now in
    let rest = c.next_back.new.self in
    let is = part.3 (key, at) rest c.in-Some.ensures.steps in
    record {
      here = key;
      found = is.1;
      before = up_to is.0.1;
      last = λ q before some. up_to_later (part.4 (key, at) rest c.in-Some.ensures.steps q (tt, not_past q c.args.place before) some);
    }

pub returns-in-None-clause-none : goal.returns-in-None-clause-none
returns-in-None-clause-none c =
    let part = c.range.ensures.in_range tt in
    λ q before. part.5 c.in-None.ensures.steps.0 q (tt, not_past q c.args.place before)

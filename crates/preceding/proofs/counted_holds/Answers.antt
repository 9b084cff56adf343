-- `preceding::counted_holds` meets its contract. Assumes nothing.
use Rattle.preceding.specs.LeaveLaws.{put_counted}
use Rattle.preceding.proofs.counted_holds.Goals as goal

pub returns-clause-behind : goal.returns-clause-behind
returns-clause-behind c =
    (put_counted c.args.program.now c.args.work.now _ _ c.statements-count.ensures.is c.routines.ensures.is c.requires.work_room c.find_preceded.new.out c.find_preceded.auto.out _ _ c.find_preceded.ensures c.leave_out.ensures.before c.leave_out.ensures.behind).1

-- `steps::operate` meets its contract. Assumes nothing.
use mir.Val.{SFits}
use mir.Syntax.{w32}
use mir.Facts.{to_z-of_z}
use mathlib.Core.Path.{refl}
use mathlib.Core.Logic.{inl, inr}
use Rattle.declarations.specs.Laid.{laid_for}
use Rattle.steps.proofs.Operating.{slot_below, named, room_here, did_read, did_write, did_set, did_add, did_take, did_give, did_point, did_call, did_start, did_jump, did_jump_zero, did_return, did_take_read}
use borrow.Author.Rules.{rules}
use Rattle.steps.proofs.operate.Goals as goal

pub call-requires : goal.call-requires
call-requires c = (named c.args.loaded.now (laid_for c.program.view_is c.program.invariant).accepted _ _ _ c.requires _ _ (inl c.in-Call.is), c.requires.newest, room_here c.args.loaded.now (laid_for c.program.view_is c.program.invariant).accepted _ _ _ c.requires _ _ c.in-Call.is)

pub start-requires : goal.start-requires
start-requires c = (named c.args.loaded.now (laid_for c.program.view_is c.program.invariant).accepted _ _ _ c.requires _ _ (inr c.in-Start.is), slot_below c.args.loaded.now (laid_for c.program.view_is c.program.invariant).accepted _ _ _ c.requires)

pub returns-in-Read : goal.returns-in-Read
returns-in-Read c = did_read c.args.loaded.now (laid_for c.program.view_is c.program.invariant).accepted _ _ _ c.requires _ _ _ c.in-Read.is c.read.ensures.0 c.read.ensures.1

pub returns-in-Write : goal.returns-in-Write
returns-in-Write c = did_write c.args.loaded.now (laid_for c.program.view_is c.program.invariant).accepted _ _ _ c.requires _ _ _ c.in-Write.is c.write.ensures.0 c.write.ensures.1

pub returns-in-Take : goal.returns-in-Take
returns-in-Take c = did_take c.args.loaded.now (laid_for c.program.view_is c.program.invariant).accepted _ _ _ c.requires _ _ _ c.in-Take.is c.take.ensures

pub returns-in-Give : goal.returns-in-Give
returns-in-Give c = did_give c.args.loaded.now (laid_for c.program.view_is c.program.invariant).accepted _ _ _ c.requires _ _ _ c.in-Give.is c.give.ensures

pub returns-in-Point : goal.returns-in-Point
returns-in-Point c = did_point c.args.loaded.now (laid_for c.program.view_is c.program.invariant).accepted _ _ _ c.requires _ _ _ _ c.in-Point.is c.point.ensures.0 c.point.ensures.1

pub returns-in-Call : goal.returns-in-Call
returns-in-Call c = did_call c.args.loaded.now (laid_for c.program.view_is c.program.invariant).accepted _ _ _ c.requires _ _ _ _ c.in-Call.is c.call.ensures

pub returns-in-Start : goal.returns-in-Start
returns-in-Start c = did_start c.args.loaded.now (laid_for c.program.view_is c.program.invariant).accepted _ _ _ c.requires _ _ _ _ c.in-Start.is c.start.ensures

pub returns-in-Jump : goal.returns-in-Jump
returns-in-Jump c = did_jump c.args.loaded.now (laid_for c.program.view_is c.program.invariant).accepted _ _ _ c.requires _ _ c.in-Jump.is refl

pub returns-in-JumpZero : goal.returns-in-JumpZero
returns-in-JumpZero c = did_jump_zero c.args.loaded.now (laid_for c.program.view_is c.program.invariant).accepted _ _ _ c.requires _ _ c.in-JumpZero.is c.jump_zero.ensures

pub returns-in-Return : goal.returns-in-Return
returns-in-Return c = did_return c.args.loaded.now (laid_for c.program.view_is c.program.invariant).accepted _ _ _ c.requires _ _ c.in-Return.is c.close.ensures.0 c.close.ensures.1

pub returns-in-TakeRead : goal.returns-in-TakeRead
returns-in-TakeRead c = did_take_read c.args.loaded.now (laid_for c.program.view_is c.program.invariant).accepted _ _ _ c.requires _ _ _ c.in-TakeRead.is c.take_read.ensures

pub returns-in-Set : goal.returns-in-Set
returns-in-Set c = let k : SFits w32 c.in-Set.number = search rules in did_set c.args.loaded.now (laid_for c.program.view_is c.program.invariant).accepted _ _ _ c.requires _ _ _ c.in-Set.is c.set.ensures.0 (rw (to_z-of_z k) at c.set.ensures.1)

pub returns-in-Add : goal.returns-in-Add
returns-in-Add c = let k : SFits w32 c.in-Add.number = search rules in did_add c.args.loaded.now (laid_for c.program.view_is c.program.invariant).accepted _ _ _ c.requires _ _ _ c.in-Add.is c.add.ensures.0 (rw (to_z-of_z k) at c.add.ensures.1)

-- `fields::digits` meets its contract: the digits before the next one say m. Assumes nothing.
use Rattle.fields.specs.FieldLoops.{Digits}
use Rattle.fields.proofs.digits.Given as goal

abbrev pub invariant-loop-c : goal.invariant-loop-c
invariant-loop-c l = Digits l.cs l.c-index l.m

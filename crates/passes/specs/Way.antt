-- Which way a pass goes over the edges. Assumes nothing.
use Rattle.passes.specs.declared.Order.{Order}
use Rattle.passes.specs.declared.Order.TheVariants.{FirstToLast, LastToFirst}

-- the other order
abbrev pub reversed : Order → Order
reversed FirstToLast = LastToFirst
reversed LastToFirst = FirstToLast

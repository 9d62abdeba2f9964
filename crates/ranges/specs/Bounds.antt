-- The range that the code's bounds are. Assumes nothing.
use Rattle.message.specs.Range.{Range, from_to}
use Rattle.text.specs.declared.Bounds.{Bounds}

abbrev pub range_is : Bounds → Range
range_is b = from_to b.lo b.hi

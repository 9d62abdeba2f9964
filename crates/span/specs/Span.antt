-- How many entries follow a message's fields, and the range of their terms, in the code's own type. Assumes nothing.
use Rattle.message.specs.Fields.{count_in}
use Rattle.message.specs.Opening.{Opening}
use Rattle.message.specs.Range.{low_in, high_in}
use Rattle.span.specs.declared.Span.{Span}

unfoldable pub span_of : Opening → Span
span_of o =
    record { count = count_in o.type o.numbers; terms = record { lo = low_in o.type o.numbers; hi = high_in o.type o.numbers } }

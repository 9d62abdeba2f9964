-- The version of what C links. Assumes nothing.
use Rattle.std.specs.Prelude.{ℕ}

-- 10,000 for each major version, 100 for each minor one, 1 for each patch: this is 3.1.0, as KRITNAMON_VERSION in include/kritnamon.h.
abbrev pub version : ℕ
version = 30_100

-- How far the clock goes.
use Rattle.std.specs.Prelude.{ℕ}

-- the greatest moment that a record may bear, in milliseconds: the last second of a 32-bit clock, less an hour
abbrev pub moment_limit : ℕ
moment_limit = 4294963695999

-- the greatest moment of the log, in milliseconds: the last second of a 32-bit clock
abbrev pub log_moment_limit : ℕ
log_moment_limit = 4294967295999

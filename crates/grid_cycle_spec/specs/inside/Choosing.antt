-- Beside what is believed of Choosing.antt: which of several a station takes.
use Rattle.std.specs.Prelude.{ℕ}

-- how many places a frame has for tokens and requests on their way
unfoldable pub places : ℕ
places = 320

-- A kernel whose every field is zero is not sound: a slice has some ticks.
-- Assumes nothing.
use mathlib.Core.Path.{ap}
use native.Mathlib.Omega.{arith}
use Rattle.plain.specs.State.{Settings}
use Rattle.kernel.specs.Holds.{IsSound}
use Rattle.image.specs.Image.{blank}

pub blank_unsound : IsSound blank → ⊥
blank_unsound (s, H, S) = omega (arith, S.settings.some_ticks, ap (λ (x : Settings). x.slice) H.settings.is)

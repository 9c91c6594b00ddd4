-- The numbers of the curves (document 01, 'The section', Target), which are called Constant, Step and Hermite as in the Rust.
use Rattle.std.specs.Prelude.{◌≡◌, ℕ, ◌<◌, Result, MatchResult}
use Rattle.bflan.specs.declared.curve.Curve.{Curve}
use Rattle.bflan.specs.declared.curve.Curve.TheVariants.{Constant, Step, Hermite}
use Rattle.bflan.specs.declared.curve.UnknownCurve.{UnknownCurve}

abbrev pub curve_number : Curve → ℕ
curve_number Constant = 0
curve_number Step = 1
curve_number Hermite = 2

-- the result is the curve with this number, or an error with a number that no curve has
abbrev pub NamesCurve : ℕ → Result Curve UnknownCurve → Type 0
NamesCurve n r = MatchResult r (λ curve. curve_number curve ≡ n) (λ e. (e.0 ≡ n) × (2 < n))

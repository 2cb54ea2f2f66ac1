-- When the fast row is taken, and what it needs then (paper 01, 'Scatter'). The Rust takes it at times from -256 to 256 alone, we take it at every time.
use Rattle.std.specs.Prelude.{◌≡◌, Bool, true, ◌&&◌, ◌+◌, leb}
use Rattle.arith.specs.Integers.{up}
use Rattle.record.specs.declared.shape.FieldShape.{FieldShape}
use Rattle.record.specs.Shape.{step_x_of, step_y_of}
use Rattle.scatter.specs.declared.geometry.Scatter.{Scatter}
use Rattle.scatter.specs.Geometry.{Geometry}
use Rattle.fast.specs.declared.condition.Fast.{Fast}
use Rattle.fast.specs.Power.{exponent_of, is_power}
use Rattle.fast.specs.Reciprocal.{widest, floor_div_of}
pub mod Laws

-- the fast row's condition, of the shape alone: pel is a power of two, and each step has a reciprocal
unfoldable pub fast_row : FieldShape → Bool
fast_row s = is_power (up s.pel) && leb (step_x_of s) widest && leb (step_y_of s) widest

-- 256 × pel is 2^shift, and both steps are divided by through their reciprocals
unfoldable pub fast_of : FieldShape → Fast
fast_of s = record { shift = 8 + exponent_of (up s.pel); across = floor_div_of (step_x_of s); down = floor_div_of (step_y_of s) }

-- what the functions of a fast row require
pub record Quick (g : Scatter) (f : Fast) : Type 0 where
  pub geometry : Geometry g
  pub taken : fast_row g.shape ≡ true
  pub is : f ≡ fast_of g.shape

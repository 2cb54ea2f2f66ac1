-- The mask settings and the level bytes (paper 01, 'Masks and class').
use Rattle.std.specs.Prelude.{Bool, cond, ◌&&◌, ℕ, ◌*◌, ◌/◌, min, ℤ, pos, ◌-ℤ◌, Float}
use Rattle.std.specs.Float.{nan, inf, fin, binary64}
use Rattle.std.specs.Float.Ieee.{up, down, of_int, of_bits, mul, div, le}
use Rattle.arith.specs.Integers.{in_range}
pub mod Laws

-- ---- the constants that the operations name, by their bits: 0.0, 100.0, 255.0, 256.0, 65536.0

abbrev pub f0 : Float
f0 = of_bits binary64 0

abbrev pub f100 : Float
f100 = of_bits binary64 0x4059_0000_0000_0000

abbrev pub f255 : Float
f255 = of_bits binary64 0x406f_e000_0000_0000

abbrev pub f256 : Float
f256 = of_bits binary64 0x4070_0000_0000_0000

abbrev pub f65536 : Float
f65536 = of_bits binary64 0x40f0_0000_0000_0000

-- ---- the settings

-- a cover is whole, 0 to 1000
unfoldable pub cover_accepted : ℤ → Bool
cover_accepted cover = in_range (pos 0) (pos 1000) cover

-- a SAD scale is 0 to 65536; no comparison holds of a NaN, and -0.0 is 0
unfoldable pub sad_scale_accepted : Float → Bool
sad_scale_accepted scale = le f0 scale && le scale f65536

-- the cover's scale: the cover made f64 and divided by 100.0
unfoldable pub cover_scale : ℤ → Float
cover_scale cover = div binary64 (of_int binary64 cover) f100

-- ---- the level bytes

-- min(255, floor of v). A finite v that is not negative is m × 2^e, and 2^e is the fraction of up e over down e; -0.0, which a SAD scale of
-- -0.0 makes, is 0. No accepted call makes a NaN, a number below 0 or an infinity: the first two are 0, +inf is 255, -inf 0.
unfoldable pub level_of : Float → ℕ
level_of nan = 0
level_of (inf negative) = cond negative 0 255
level_of (fin negative m e) = cond negative 0 (min 255 (m * up e / down e))

-- (area - c) × scale × 256.0 / area, left to right
unfoldable pub cover_value : Float → ℕ → ℤ → Float
cover_value scale area c =
    div binary64 (mul binary64 (mul binary64 (of_int binary64 (pos area -ℤ c)) scale) f256) (of_int binary64 (pos area))

-- (4 × sad) × scale / area × 255.0, left to right
unfoldable pub sad_value : Float → ℕ → ℕ → Float
sad_value scale area sad =
    mul binary64 (div binary64 (mul binary64 (of_int binary64 (pos (4 * sad))) scale) (of_int binary64 (pos area))) f255

-- a byte of paper 01's cover mask, with c of the area covered
unfoldable pub cover_level : Float → ℕ → ℤ → ℕ
cover_level scale area c = level_of (cover_value scale area c)

-- a byte of paper 01's SAD mask
unfoldable pub sad_level : Float → ℕ → ℕ → ℕ
sad_level scale area sad = level_of (sad_value scale area sad)

-- `given::Numbers::scale` is safe: a pattern that is not above the infinity's, its sign taken off, is no NaN's.
use Rattle.std.proofs.Common.{arith}
use Rattle.std.proofs.lemmas.Float.{not_nan_f64_bits}
use Rattle.replay.proofs.given.Numbers.scale.Goals as goal

pub float_from_bits-result : goal.float_from_bits-result
float_from_bits-result c = not_nan_f64_bits _ (omega arith)

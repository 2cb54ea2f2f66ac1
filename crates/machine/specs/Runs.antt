-- What holds of the runs of every state that a list of calls leads to (paper 02, request 2).
use Rattle.std.specs.Prelude.{reverse}
use Rattle.runs.specs.Runs.{Line, line, Apart}
use Rattle.machine.specs.Machine.{Machine, gestures_of}

-- the gestures behind the line between past and future, latest first, and those ahead of it, next redo first
unfoldable pub line_of : Machine → Line
line_of m = line (reverse (gestures_of m.past)) (gestures_of m.future)

-- past's last gesture and future's first differ, where there are both: no run goes over from past into future
unfoldable pub Parted : Machine → Type 0
Parted m = Apart (line_of m).behind (line_of m).ahead

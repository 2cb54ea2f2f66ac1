-- A session by its fields: the one that open begins with, and the same with other step counts, another time (paper 01, 'Session') or other kept counts
-- (paper 02, request 1).
use Rattle.std.specs.Prelude.{ℕ, ◌+◌, min, ℤ, pos}
use Rattle.record.specs.declared.shape.FieldShape.{FieldShape}
use Rattle.maps.specs.declared.map.SceneLimits.{SceneLimits}
use Rattle.maps.specs.declared.class.Counts.{Counts}
use Rattle.maps.specs.Class.{tally}
use Rattle.state.specs.declared.session.Session.{Session}

-- what open was given, the time, how many steps are past and future, and the kept counts
abbrev pub session_of : FieldShape → ℕ → SceneLimits → ℤ → ℕ → ℕ → Counts → Session
session_of shape side limits T past future kept =
    record { shape = shape; side = side; limits = limits; time = T; past = past; future = future; kept = kept }

-- open's: no steps, and nothing counted yet
abbrev pub new_session : FieldShape → ℕ → SceneLimits → ℤ → Session
new_session shape side limits T = session_of shape side limits T 0 0 (tally 0 0 0 0)

unfoldable pub with_steps : ℕ → ℕ → Session → Session
with_steps past future s = session_of s.shape s.side s.limits s.time past future s.kept

-- one more past step, of which there are at most D, and no future one
unfoldable pub with_step : ℕ → Session → Session
with_step D s = with_steps (min (s.past + 1) D) 0 s

unfoldable pub with_time : ℤ → Session → Session
with_time T s = session_of s.shape s.side s.limits T s.past s.future s.kept

unfoldable pub with_kept : Counts → Session → Session
with_kept kept s = session_of s.shape s.side s.limits s.time s.past s.future kept

-- beside a refused open every value of a session is 0
unfoldable pub no_session : Session
no_session =
    new_session
    (record {
      flags = pos 0;
      block_w = pos 0;
      block_h = pos 0;
      pel = pos 0;
      width = pos 0;
      height = pos 0;
      overlap_x = pos 0;
      overlap_y = pos 0;
      grid_w = pos 0;
      grid_h = pos 0;
      selector = pos 0;
    })
    0
    (record { blocks = pos 0; zero = pos 0; m1 = pos 0; m2 = pos 0; scene = pos 0 })
    (pos 0)

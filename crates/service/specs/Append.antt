-- What `append` answers, and what it leaves in the log.
use Rattle.std.specs.Prelude.{ℕ, ◌+◌, cond, ◌&&◌, List, ◌++◌, length, take, drop, Some, None, Option, nat_le, nat_lt}
use Rattle.codec.specs.Bytes.{be}
use Rattle.journal.specs.Log.{LogRow, log_row, row_bytes}
use Rattle.service.specs.declared.Term.{Term}

-- the row of a term
abbrev pub term_row : Term → LogRow
term_row t = log_row t.section (be 8 t.serial) t.next.section t.next.position (be 8 t.first ++ be 8 t.end)

-- how long the row is, none where the days are no window or the log ends too soon
abbrev pub append_answer : List ℕ → ℕ → Term → Option ℕ
append_answer log at t = cond (nat_lt t.first t.end && nat_le (at + 58) (length log)) (Some 58) None

-- the row stands at `at`, and all else stays; or all stays
abbrev pub append_after : List ℕ → ℕ → Term → Option ℕ → List ℕ
append_after log at t None = log
append_after log at t (Some n) = take at log ++ (row_bytes (term_row t) ++ drop (at + n) log)

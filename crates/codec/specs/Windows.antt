-- Window: a first day and an end day, the first below the end.
use Rattle.std.specs.Prelude.{◌≡◌, ℕ, Bool, true, false, cond, List, ◌++◌, length, take, drop, Some, None, Ok, Err, Option, Result, ◌==◌, nat_lt, refl}
use Rattle.codec.specs.declared.fault.KindFault.{KindFault}
use Rattle.codec.specs.declared.fault.KindFault.TheVariants.{NoValue}
use Rattle.codec.specs.declared.window.Window.{Window}
use Rattle.codec.specs.Bytes.{be, number}
use Rattle.codec.specs.Kept.{in_order}

-- may a window have these days
abbrev pub window_check : ℕ → ℕ → Result (Unit {0}) KindFault
window_check first end = cond (nat_lt first end) (Ok tt) (Err NoValue)

-- 16 bytes: the first day as 8, then the end day as 8
abbrev pub window_bytes : Window → List ℕ
window_bytes w = be 8 w.first ++ be 8 w.end

-- the same, once it is known whether they are in order
abbrev pub window_if : (first end : ℕ) (ordered : Bool) → in_order first end ≡ ordered → Option Window
window_if first end true h = Some (record { first = first; end = end; ok = h })
window_if first end false h = None

-- the window of two days, none where they are not in order
abbrev pub window_of : ℕ → ℕ → Option Window
window_of first end = window_if first end (in_order first end) refl

-- the window that bytes write
abbrev pub window_read : List ℕ → Option Window
window_read bs = cond (length bs == 16) (window_of (number (take 8 bs)) (number (drop 8 bs))) None

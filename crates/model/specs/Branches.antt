-- One action's branches, as a stretch of a lent table.
use Rattle.std.specs.Prelude.{ℕ, ◌+◌, ◌-◌, Bool, cond, ◌&&◌, List, leb, ltb, length, get_or, take, drop}
use Rattle.std.specs.declared.ops.Range.{Range}

-- there is such an action, and its two starts rise within a table of this length
unfoldable pub rises : ℕ → List ℕ → ℕ → Bool
rises long starts a =
    ltb (a + 1) (length starts) && (ltb (get_or starts a 0) (get_or starts (a + 1) 0) && leb (get_or starts (a + 1) 0) long)

-- from the one start up to the other, or the empty stretch at the beginning
unfoldable pub stretch_of : ℕ → List ℕ → ℕ → Range ℕ
unfolding rises
stretch_of long starts a =
    cond (rises long starts a) (record { start = get_or starts a 0; end = get_or starts (a + 1) 0 }) (record { start = 0; end = 0 })

-- the entries of the table that the stretch holds
unfoldable pub within : List ℕ → Range ℕ → List ℕ
within table x = take (x.end - x.start) (drop x.start table)

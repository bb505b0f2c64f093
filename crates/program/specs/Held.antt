-- What the check program's room holds, and what it holds where it is new.
use Rattle.std.specs.Prelude.{replicate}
use Rattle.certfile.specs.Tables.{Tables, tables}
use Rattle.program.specs.declared.Room.{Room}

abbrev pub held : Room → Tables
held r = tables r.marks r.action_starts r.branch_starts r.destinations r.weights r.costs r.claims r.ranks

-- all zeros: 500 states, 1,000 actions and 2,000 branches
abbrev pub empty : Tables
empty =
    tables
    (replicate 500 0)
    (replicate 501 0)
    (replicate 1001 0)
    (replicate 2000 0)
    (replicate 2000 0)
    (replicate 500 0)
    (replicate 500 0)
    (replicate 500 0)

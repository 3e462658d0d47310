-- Shapes as plain trees.
use Rattle.std.specs.Prelude.{ℕ, max, List, ◌+◌}

mutual
  pub data ShapeTree : Type 0 where
    unit : ShapeTree
    flag : ShapeTree
    unsigned : ShapeTree
    signed : ShapeTree
    text : ShapeTree
    bytes : ShapeTree
    place : ShapeTree
    list : ShapeTree → ShapeTree
    object : Parts → ShapeTree

  -- the fields of an object, each with its name, in declared order
  pub data Parts : Type 0 where
    no_parts : Parts
    part : List ℕ → ShapeTree → Parts → Parts

abbrev pub count_parts : Parts → ℕ
count_parts no_parts = 0
count_parts (part name f ps) = count_parts ps + 1

-- how deep a shape nests: without parts 1, else one more than its deepest part
abbrev mutual
  pub depth : ShapeTree → ℕ
  depth (list f) = depth f + 1
  depth (object ps) = parts_depth ps + 1
  depth _ = 1

  pub parts_depth : Parts → ℕ
  parts_depth no_parts = 0
  parts_depth (part name f ps) = max (depth f) (parts_depth ps)

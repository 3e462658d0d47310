-- A shape of the program as a plain tree: one fold.
use Rattle.std.specs.Prelude.{ℕ, List, [], ◌∷◌, map}
use Rattle.caf_types.specs.ShapeTree.{ShapeTree, unit, flag, unsigned, signed, text, bytes, place, list, object, Parts, no_parts, part}
use Rattle.caf_types.specs.declared.shape.Shape.{Shape}
use Rattle.caf_types.specs.declared.shape.Shape.TheOpen as open_shape
use Rattle.caf_types.specs.declared.shape.Shape.TheOpen.{Shape-F, Field-F}
use Rattle.caf_types.specs.declared.shape.Shape.TheFolds.{fold-Shape, fold-Field}
use Rattle.caf_types.specs.declared.shape.Field.{Field}
use Rattle.caf_types.specs.declared.shape.Entry.{Entry}
use Rattle.caf_types.specs.Table.{Named, named}

abbrev pub parts_of : List (List ℕ × ShapeTree) → Parts
parts_of [] = no_parts
parts_of (p ∷ ps) = part p.0 p.1 (parts_of ps)

-- one level, with each shape inside already seen as its tree
abbrev pub tree_step : Shape-F ShapeTree (List ℕ × ShapeTree) → ShapeTree
tree_step open_shape.Unit = unit
tree_step open_shape.Flag = flag
tree_step open_shape.Unsigned = unsigned
tree_step open_shape.Signed = signed
tree_step open_shape.Text = text
tree_step open_shape.Bytes = bytes
tree_step open_shape.Place = place
tree_step (open_shape.List item) = list item
tree_step (open_shape.Object fields) = object (parts_of fields)

abbrev pub field_step : Field-F ShapeTree (List ℕ × ShapeTree) → List ℕ × ShapeTree
field_step f = (f.name, f.shape)

abbrev pub tree : Shape → ShapeTree
tree = fold-Shape ShapeTree (List ℕ × ShapeTree) tree_step field_step

-- a field: its name and the tree of its shape
abbrev pub field_view : Field → List ℕ × ShapeTree
field_view = fold-Field ShapeTree (List ℕ × ShapeTree) tree_step field_step

abbrev pub parts : List Field → Parts
parts fs = parts_of (map field_view fs)

-- entries: their names and the trees of their shapes
abbrev pub entry_view : Entry → Named
entry_view e = named e.name (tree e.shape)

abbrev pub entry_views : List Entry → List Named
entry_views es = map entry_view es

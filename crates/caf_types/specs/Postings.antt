-- The shape of the postings that the tests declare.
use Rattle.std.specs.Prelude.{codes}
use Rattle.caf_types.specs.ShapeTree.{ShapeTree, unsigned, text, list, object, no_parts, part}

abbrev pub postings : ShapeTree
postings =
    object (part (codes "file") unsigned (
    part (codes "items") (list (object (part (codes "word") text (part (codes "line") unsigned no_parts)))) no_parts))

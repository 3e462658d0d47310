use Rattle.std.proofs.Common.{◌≡◌, vec_len, string_bytes}
use Rattle.caf_inspect.specs.TextBuilder.{frames_of}
use Rattle.caf_inspect.specs.TextStack.{give}
use Rattle.caf_inspect.proofs.text_builder.TextBuilder.close.Given as goal

abbrev pub invariant-loop-part : goal.invariant-loop-part
invariant-loop-part l = give (frames_of l.self.parts.items) (string_bytes l.self.text) ≡ give (frames_of l.fn.self.parts.items) (string_bytes l.fn.self.text)

abbrev pub decreases-loop-part : goal.decreases-loop-part
decreases-loop-part l = vec_len l.self.parts

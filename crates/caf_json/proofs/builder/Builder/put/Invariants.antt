use Rattle.std.proofs.Common.{◌≡◌, ◌≤◌, vec_len}
use Rattle.serde_json.specs.View.{view}
use Rattle.caf_json.specs.Builder.{frames_of}
use Rattle.caf_json.specs.Stack.{give}
use Rattle.caf_json.proofs.builder.Builder.put.Given as goal

abbrev pub invariant-loop-part : goal.invariant-loop-part
invariant-loop-part l = record {
  same : give (frames_of l.self.parts.items) (view l.self.last) (view l.value) ≡ give (frames_of l.fn.self.parts.items) (view l.fn.self.last) (view l.fn.value);
  fewer : vec_len l.self.parts ≤ vec_len l.fn.self.parts;
}

abbrev pub decreases-loop-part : goal.decreases-loop-part
decreases-loop-part l = vec_len l.self.parts

use Rattle.std.proofs.Common.{◌∷◌, ◌-◌, ◌∙◌, sym, ap, string_bytes, arith}
use Rattle.caf_inspect.specs.TextBuilder.{frame_of, frames_of}
use Rattle.caf_inspect.specs.TextStack.{give, in_list, in_object, state}
use Rattle.caf_inspect.proofs.TextBuilderLemmas.{given_whole, given_open}
use Rattle.caf_inspect.proofs.TextBuilderLemmas.{into_last}
use Rattle.caf_inspect.proofs.text_builder.TextBuilder.close.Goals as goal

pub returns-then-missing-gt0 : goal.returns-then-missing-gt0
returns-then-missing-gt0 c =
    let fs = frames_of c.pop.new.self.items in
    let t = string_bytes c.loop-part.self.text in
    ap (λ gs. state gs (string_bytes c.add_plain.new.text)) c.in_ok-open_part-in-List.ensures
    ∙ ap (state (in_list (c.in-List.missing - 1) ∷ fs)) c.in_ok-add_plain-in-List.ensures.added
    ∙ sym (given_open c.in-List.missing in_list 93 fs t (give fs) (omega (arith, c.if-missing-gt0.true)))
    ∙ ap (λ p. give (frame_of p ∷ fs) t) (sym c.in-List.is)
    ∙ into_last c.loop-part.self.parts.items c.pop.new.self.items c.in-Some.part t _ c.in-Some.ensures.items c.loop-part.invariant

pub returns-then-missing-gt0-2 : goal.returns-then-missing-gt0-2
returns-then-missing-gt0-2 c =
    let fs = frames_of c.pop.new.self.items in
    let t = string_bytes c.loop-part.self.text in
    ap (λ gs. state gs (string_bytes c.add_plain-then-missing-gt0-2.new.text)) c.in_ok-open_part-in-Object.ensures
    ∙ ap (state (in_object (c.in-Object.missing - 1) ∷ fs)) c.in_ok-add_plain-in-Object.ensures.added
    ∙ sym (given_open c.in-Object.missing in_object 125 fs t (give fs) (omega (arith, c.if-missing-gt0-2.true)))
    ∙ ap (λ p. give (frame_of p ∷ fs) t) (sym c.in-Object.is)
    ∙ into_last c.loop-part.self.parts.items c.pop.new.self.items c.in-Some.part t _ c.in-Some.ensures.items c.loop-part.invariant

pub loop-part-preserved-in-Continue-branch-3 : goal.loop-part-preserved-in-Continue-branch-3
loop-part-preserved-in-Continue-branch-3 c =
    let fs = frames_of c.pop.new.self.items in
    let t = string_bytes c.loop-part.self.text in
    ap (give fs) c.in_ok-add_plain-in-List-2.ensures.added
    ∙ sym (given_whole c.in-List.missing in_list 93 fs t (give fs) (omega (arith, c.if-missing-gt0.false)))
    ∙ ap (λ p. give (frame_of p ∷ fs) t) (sym c.in-List.is)
    ∙ into_last c.loop-part.self.parts.items c.pop.new.self.items c.in-Some.part t _ c.in-Some.ensures.items c.loop-part.invariant

pub loop-part-preserved : goal.loop-part-preserved
loop-part-preserved c =
    let fs = frames_of c.pop.new.self.items in
    let t = string_bytes c.loop-part.self.text in
    ap (give fs) c.in_ok-add_plain-in-Object-2.ensures.added
    ∙ sym (given_whole c.in-Object.missing in_object 125 fs t (give fs) (omega (arith, c.if-missing-gt0-2.false)))
    ∙ ap (λ p. give (frame_of p ∷ fs) t) (sym c.in-Object.is)
    ∙ into_last c.loop-part.self.parts.items c.pop.new.self.items c.in-Some.part t _ c.in-Some.ensures.items c.loop-part.invariant

-- A text that is written in pieces.
use Rattle.std.proofs.Common.{◌≡◌, ℕ, ◌+◌, List, [], ◌++◌, length, take, drop, Option, None, Some, refl, sym, ap, ◌∙◌, arith}
use Rattle.std.proofs.lemmas.List.{append_assoc, append-nil, length-append, take-append-le, take-append-drop}
use Rattle.std.proofs.Math.Seq.{take-append-add}
use Rattle.caf_io.specs.Sink.{added, AddsPrefix}

added-nil : (before : Option (List ℕ)) → added before [] ≡ before
added-nil None = refl
added-nil (Some bytes) = ap Some (append-nil bytes)

added-added : (before : Option (List ℕ)) (first then : List ℕ) → added (added before first) then ≡ added before (first ++ then)
added-added None first then = refl
added-added (Some bytes) first then = ap Some (append_assoc bytes first then)

-- what was split off, and what was left
pub both_parts : (at : ℕ) (whole piece later : List ℕ) → piece ≡ take at whole → later ≡ drop at whole → whole ≡ piece ++ later
both_parts at whole piece later front back =
    sym (ap (λ xs. xs ++ later) front ∙ ap (λ ys. take at whole ++ ys) back ∙ take-append-drop at whole)

-- the front of the text was added, and `rest` is what is left of it
pub record IsWritten (before now : Option (List ℕ)) (text rest : List ℕ) : Type 0 where
  pub front : List ℕ
  pub split : text ≡ front ++ rest
  pub holds : now ≡ added before front

pub nothing : (before : Option (List ℕ)) (text : List ℕ) → IsWritten before before text text
nothing before text = record { front = []; split = refl; holds = sym (added-nil before) }

pub one_more : (before now after : Option (List ℕ)) (text rest piece later : List ℕ) → IsWritten before now text rest
    → rest ≡ piece ++ later → after ≡ added now piece → IsWritten before after text later
one_more before now after text rest piece later so_far cut add =
    record {
      front = so_far.front ++ piece;
      split = so_far.split ∙ ap (λ xs. so_far.front ++ xs) cut ∙ sym (append_assoc so_far.front piece later);
      holds = add ∙ ap (λ w. added w piece) so_far.holds ∙ added-added before so_far.front piece;
    }

pub all_of_it : (before now after : Option (List ℕ)) (text rest : List ℕ) → IsWritten before now text rest
    → after ≡ added now rest → after ≡ added before text
all_of_it before now after text rest so_far add =
    add ∙ ap (λ w. added w rest) so_far.holds ∙ added-added before so_far.front rest ∙ ap (added before) (sym so_far.split)

pub part_of_it : (before now after : Option (List ℕ)) (text rest piece later : List ℕ) → IsWritten before now text rest
    → rest ≡ piece ++ later → AddsPrefix now after piece → AddsPrefix before after text
part_of_it before now after text rest piece later so_far cut some =
    let whole : text ≡ so_far.front ++ (piece ++ later) = so_far.split ∙ ap (λ xs. so_far.front ++ xs) cut in
    let front_len = length-append so_far.front (piece ++ later) in
    let piece_len = length-append piece later in (
      length so_far.front + some.0,
      omega (arith, ap length whole),
      some.2
          ∙ ap (λ w. added w (take some.0 piece)) so_far.holds
          ∙ added-added before so_far.front (take some.0 piece)
          ∙ ap (λ xs. added before (so_far.front ++ xs)) (sym (take-append-le some.0 piece later some.1))
          ∙ ap (added before) (sym (take-append-add so_far.front (piece ++ later) some.0))
          ∙ ap (λ xs. added before (take (length so_far.front + some.0) xs)) (sym whole),
    )

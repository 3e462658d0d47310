-- How one shows that an actor of a pipeline keeps to what may come: by what stays true of its value.
use Rattle.std.proofs.Common.{◌≡◌, ℕ, ◌==◌, ◌&&◌, Bool, true, false, List, [], ◌∷◌, Option, Some, None, inl, inr, refl, sym, subst, ap, ◌∙◌}
use Rattle.std.specs.Prelude.{◌||◌, not, bytes_eq, Contains, ◌⊎◌}
use Rattle.std.specs.List.{AllByRecursion}
use Rattle.std.proofs.lemmas.Slice.Eq.{bytes_eq-Decides}
use Rattle.std.proofs.lemmas.Map.Views.{Contains-from_any}
use Rattle.caf_carriers.proofs.CountLemmas.{same_number}
use Rattle.caf_index.proofs.ContainsLemmas.{contains-none, contains-cases}
use Rattle.caf_message.specs.Envelope.{no_request}
use Rattle.caf_types.specs.declared.notice.Priority.{Priority}
use Rattle.caf_actor.specs.declared.origin.Origin.{Origin}
use Rattle.caf_actor.specs.Answering.{is_asked}
use Rattle.caf_actor.specs.PlainInput.{PlainInput, Start, Stop, Content, Response, Failed, Down, Tick}
use Rattle.caf_actor.specs.Rules.{fed}
use Rattle.caf_actor.specs.Sending.{mid_of}
use Rattle.caf_kinds.specs.Kinds.{kind_rules, reacted}
use Rattle.caf_kinds.specs.Reacting.{Reacted}
use Rattle.caf_kinds.specs.declared.contents.Chunk.{Chunk}
use Rattle.caf_kinds.specs.declared.kind.Kind.{Kind}
use Rattle.caf_kinds.specs.declared.setup.KindName.{KindName}
use Rattle.caf_kinds.specs.declared.setup.Setup.{Setup}
use Rattle.caf_steady.specs.Classes.{origin_from, MayTell, MaySend, MayAnswer, MayReplyTo, IsTaken, AlwaysKeeps}
use Rattle.caf_pipeline.specs.Undisturbed.{IsSetUp}
use Rattle.caf_pipeline.specs.Contents.{told_to, asked_of, is_one_of, comes_as, comes}

-- ---- tests

both_parts : (a b : Bool) → (a && b) ≡ true → (a ≡ true) × (b ≡ true)
both_parts true b e = (refl, e)
both_parts false b e = absurd cc

either_part : (a b : Bool) → (a || b) ≡ true → (a ≡ true) ⊎ (b ≡ true)
either_part true b e = inl refl
either_part false b e = inr e

from_not : (a : Bool) → not a ≡ true → a ≡ false
from_not true e = absurd cc
from_not false e = refl

same_bytes : (xs ys : List ℕ) → bytes_eq xs ys ≡ true → xs ≡ ys
same_bytes xs ys e = (bytes_eq-Decides xs ys).0 e

one_is_contained : (words : List ℕ) (contents : List (List ℕ)) → is_one_of words contents ≡ true → Contains contents words
one_is_contained words contents e = Contains-from_any same_bytes words contents e

contained_is_one : (words : List ℕ) (contents : List (List ℕ)) → Contains contents words → is_one_of words contents ≡ true
contained_is_one words [] has = absurd (contains-none words has)
contained_is_one words (x ∷ xs) has = go (bytes_eq words x) refl (contains-cases x words xs has) (contained_is_one words xs)
  where
    go : (b : Bool) → bytes_eq words x ≡ b → (x ≡ words) ⊎ Contains xs words → (Contains xs words → is_one_of words xs ≡ true) → is_one_of words (x ∷ xs) ≡ true
    go true q which later = rw q refl
    go false q (inl is) later = let yes : bytes_eq words x ≡ true = (bytes_eq-Decides words x).1 (sym is) in let no : false ≡ true = sym q ∙ yes in absurd cc
    go false q (inr has) later = rw (q, later has) refl

-- ---- what may be sent

module _ (setups : List Setup) (cs : List Chunk) where
  pub told_comes : (kind : KindName) (peers : List ℕ) (to : ℕ) (place : ℕ) (priority : Priority) (words : List ℕ) → IsSetUp setups kind peers to → Contains (told_to cs kind (place == to)) words
      → MayTell (comes setups cs) place priority words to
  told_comes kind peers to place priority words is has =
      let one : is_one_of words (told_to cs is.setup.kind (place == to)) ≡ true = ap (λ (k : KindName). is_one_of words (told_to cs k (place == to))) is.kind_is ∙ contained_is_one words (told_to cs kind (place == to)) has in
      ap (λ (o : Option Setup). comes_as cs to o (Content (origin_from place (no_request place) priority) words)) is.at
      ∙ ap (λ (b : Bool). b || ((place == 0) && is_one_of words (asked_of is.setup.kind))) one

  or_true : (a : Bool) → (a || true) ≡ true
  or_true true = refl
  or_true false = refl

  pub asked_comes : (kind : KindName) (peers : List ℕ) (to number : ℕ) (priority : Priority) (words : List ℕ) → IsSetUp setups kind peers to → Contains (asked_of kind) words
      → comes setups cs to (Content (origin_from 0 (mid_of 0 number) priority) words) ≡ true
  asked_comes kind peers to number priority words is has =
      let one : is_one_of words (asked_of is.setup.kind) ≡ true = ap (λ (k : KindName). is_one_of words (asked_of k)) is.kind_is ∙ contained_is_one words (asked_of kind) has in
      let origin = origin_from 0 (mid_of 0 number) priority in
      ap (λ (o : Option Setup). comes_as cs to o (Content origin words)) is.at
      ∙ ap (λ (b : Bool). (not (is_asked origin) && is_one_of words (told_to cs is.setup.kind (0 == to))) || b) one
      ∙ or_true (not (is_asked origin) && is_one_of words (told_to cs is.setup.kind (0 == to)))

  pub answered_comes : (requester : ℕ) (words : List ℕ) → requester ≡ 0 → MayAnswer (comes setups cs) requester words
  answered_comes requester words e = subst (λ (r : ℕ). MayAnswer (comes setups cs) r words) (sym e) (λ tag. (refl, refl))

  -- ---- what comes to a part is content that it is told, or that place 0 asks

  pub at_content : (place : ℕ) (P : PlainInput → Type 0) (s : Setup) (kind : KindName) → s.kind ≡ kind
      → ((o : Origin) (words : List ℕ) → is_asked o ≡ false → Contains (told_to cs kind (o.sender == place)) words → P (Content o words))
      → ((o : Origin) (words : List ℕ) → o.mid.requester ≡ 0 → Contains (asked_of kind) words → P (Content o words))
      → (i : PlainInput) → comes_as cs place (Some s) i ≡ true → P i
  at_content place P s kind same told asked (Content o words) e =
      elim (either_part (not (is_asked o) && is_one_of words (told_to cs s.kind (o.sender == place))) ((o.mid.requester == 0) && is_one_of words (asked_of s.kind)) e) [
        | inl here ↦
            (let both = both_parts (not (is_asked o)) (is_one_of words (told_to cs s.kind (o.sender == place))) here in
            told o words (from_not (is_asked o) both.0) (subst (λ (k : KindName). Contains (told_to cs k (o.sender == place)) words) same (one_is_contained words (told_to cs s.kind (o.sender == place)) both.1)))
        | inr here ↦
            (let both = both_parts (o.mid.requester == 0) (is_one_of words (asked_of s.kind)) here in
            asked o words (same_number o.mid.requester 0 both.0) (subst (λ (k : KindName). Contains (asked_of k) words) same (one_is_contained words (asked_of s.kind) both.1)))
      ]
  at_content place P s kind same told asked Start e = absurd cc
  at_content place P s kind same told asked Stop e = absurd cc
  at_content place P s kind same told asked (Response tag words) e = absurd cc
  at_content place P s kind same told asked (Failed tag sec) e = absurd cc
  at_content place P s kind same told asked (Down from why) e = absurd cc
  at_content place P s kind same told asked Tick e = absurd cc

  -- ---- what stays true

  -- after the input the value is one of those, and what it did may be
  pub record Goes (place : ℕ) (Inv : Kind → Type 0) (b : Kind) (i : PlainInput) : Type 0 where
    pub taken : IsTaken (comes setups cs) kind_rules b i
    pub sends : AllByRecursion (MaySend (comes setups cs) place) (kind_rules.reaction b i).outputs
    pub replies : MayReplyTo (comes setups cs) place i (kind_rules.reaction b i).answer
    pub stays : (kind_rules.reaction b i).quit ≡ None
    pub next : Inv (kind_rules.next b i)

  pub goes_as : (place : ℕ) (Inv : Kind → Type 0) (b : Kind) (i : PlainInput) (r : Reacted Kind) → reacted b i ≡ r → IsTaken (comes setups cs) kind_rules b i
      → AllByRecursion (MaySend (comes setups cs) place) r.1.outputs → MayReplyTo (comes setups cs) place i r.1.answer → r.1.quit ≡ None → Inv r.0 → Goes place Inv b i
  goes_as place Inv b i r e taken sends replies stays next = record {
    taken = taken;
    sends = subst (λ (x : Reacted Kind). AllByRecursion (MaySend (comes setups cs) place) x.1.outputs) (sym e) sends;
    replies = subst (λ (x : Reacted Kind). MayReplyTo (comes setups cs) place i x.1.answer) (sym e) replies;
    stays = ap (λ (x : Reacted Kind). x.1.quit) e ∙ stays;
    next = subst (λ (x : Reacted Kind). Inv x.0) (sym e) next;
  }

  module _ (place : ℕ) (Inv : Kind → Type 0) (wants : (b : Kind) → Inv b → (ids : List ℕ) → kind_rules.skips b ids ≡ false)
      (goes : (b : Kind) (i : PlainInput) → Inv b → comes setups cs place i ≡ true → Goes place Inv b i) where
    stays_so : (b : Kind) (is : List PlainInput) → Inv b → AllByRecursion (λ i. comes setups cs place i ≡ true) is → Inv (fed kind_rules b is)
    stays_so b [] inv all = inv
    stays_so b (i ∷ is) inv all = stays_so (kind_rules.next b i) is (goes b i inv all.0).next all.1

    pub always_keeps : (b : Kind) → Inv b → AlwaysKeeps (comes setups cs) kind_rules place b
    always_keeps b inv is all =
        let now = stays_so b is inv all in
        let c = fed kind_rules b is in
        record {
          wants = wants c now;
          takes = λ i e. (goes c i now e).taken;
          sends = λ i e. (goes c i now e).sends;
          replies = λ i e. (goes c i now e).replies;
          stays = λ i e. (goes c i now e).stays;
        }

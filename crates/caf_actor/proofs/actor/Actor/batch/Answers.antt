use Rattle.std.proofs.Common.{◌≡◌, ◌∙◌, sym, ap, arith, subst, ℕ, false, List, [], ◌∷◌, ◌++◌, map}
use Rattle.std.specs.Prelude.{IsTrue}
use Rattle.std.specs.List.{AllByRecursion}
use Rattle.caf_types.specs.Table.{shape_at}
use Rattle.caf_types.specs.TypeTable.{seen}
use Rattle.caf_message.specs.declared.envelope.Taken.{Taken}
use Rattle.caf_message.specs.Envelope.{EnvelopeFits, plain_envelope}
use Rattle.caf_actor.specs.declared.snapshot.Snapshot.{Snapshot}
use Rattle.caf_mailbox.specs.Caches.{CachedLists}
use Rattle.caf_message.specs.Entries.{entry_shape}
use Rattle.caf_actor.specs.declared.post.Post.{Post}
use Rattle.caf_actor.specs.PlainInput.{PlainInput}
use Rattle.caf_actor.specs.PlainPost.{PlainPost}
use Rattle.caf_actor.specs.Rules.{MayBeGiven, InputFits, ReactionFits}
use Rattle.caf_actor.specs.Actor.{ActorState, IsAtWork, CachesFit, DelaysFit}
use Rattle.caf_actor.specs.Leads.{StaysWithin, GoesWithin, IsPostInForm, PostFits}
use Rattle.caf_actor.specs.PlainForms.{plain_post, reached}
use Rattle.caf_actor.specs.Snapshot.{Handled, so_far, cached}
use Rattle.caf_actor.specs.Drain.{drain, with_batch, batch_of}
use Rattle.caf_actor.proofs.CachedLemmas.{filed_fit}
use Rattle.caf_actor.proofs.DrainLemmas.{cached_drain, batch_fit}
use Rattle.caf_actor.proofs.SoundLemmas.{work_batch, fit_batch, posts_fit, delays_fit, posts_in_form, within_batch, stays_within, posts_within}
use Rattle.caf_actor.specs.declared.journal.TakenBatch.{TakenBatch}
use Rattle.caf_actor.proofs.WorkLemmas.{still_at_work}
use Rattle.caf_actor.proofs.actor.Actor.batch.Given.{Over}
use Rattle.caf_actor.proofs.actor.Actor.batch.Goals as goal

pub drain-requires-clause-fits : goal.drain-requires-clause-fits
drain-requires-clause-fits g c =
    let shape_of = shape_at (seen c.args.table.now) in
    let fits = subst (λ (es : List Taken). AllByRecursion (EnvelopeFits shape_of) es) (sym c.in_ok-batch.ensures.kept) c.requires.fits in
    subst (λ (s : Snapshot g.row.B.Denot). CachesFit shape_of s.caches) (sym c.in_ok-file.ensures)
    (filed_fit shape_of c.self.inside.snapshot.caches (map plain_envelope c.in_ok-batch.batch) (subst (λ (lists : CachedLists). CachesFit shape_of lists) (ap (λ (a : ActorState g.row.B.Denot). a.snapshot.caches) (sym c.self.view_is)) (c.requires.lists_fit (ap (λ (a : ActorState g.row.B.Denot). a.is_broken) (sym c.self.view_is) ∙ c.if-self.false))) fits)

pub overflow_sub-left : goal.overflow_sub-left
overflow_sub-left g c =
    let less = cached_drain g.B.Behavior.rules (reached c.file.new.self c.new-posts.result) in
    let after = ap (λ (t : Handled g.row.B.Denot). cached t.snapshot) c.in_ok-drain.ensures in
    let before = c.len-filed.ensures in
    let now = c.len.ensures in
    omega arith

-- the drain of the definitions ends where that of the code does
ended : (g : Over) (c : goal.After-into_seq g) → batch_of g.B.Behavior.rules c.args.self.now.snapshot (map plain_envelope c.args.batch) ≡ reached c.drain.new.self c.drain.new.posts
ended g c =
    let batch : List Taken = map plain_envelope c.args.batch in
    let filed : with_batch c.args.self.now.snapshot batch ≡ c.file.new.self =
    (λ i. with_batch (sym c.self.view_is i).snapshot (sym c.in_ok-batch.ensures.kept i)) ∙ sym c.in_ok-file.ensures in
    let started : ◌≡◌ {A = Handled g.row.B.Denot} (so_far (with_batch c.args.self.now.snapshot batch) []) (reached c.file.new.self c.new-posts.result) = λ i. so_far (filed i) (map plain_post (sym c.new-posts.ensures i)) in
    ap (drain g.B.Behavior.rules) started ∙ c.in_ok-drain.ensures

after : (g : Over) (c : goal.After-into_seq g) → (batch_of g.B.Behavior.rules c.args.self.now.snapshot (map plain_envelope c.args.batch)).snapshot ≡ c.drain.new.self
after g c = ap (λ (t : Handled g.row.B.Denot). t.snapshot) (ended g c)

posted : (g : Over) (c : goal.After-into_seq g) → (batch_of g.B.Behavior.rules c.args.self.now.snapshot (map plain_envelope c.args.batch)).posts ≡ map plain_post c.into_seq.result
posted g c = ap (λ (t : Handled g.row.B.Denot). t.posts) (ended g c) ∙ ap (λ (ps : List Post). map plain_post ps) (sym c.into_seq.ensures)

-- the actor was at work before
at_work : (g : Over) (c : goal.After-into_seq g) → IsAtWork g.B.Behavior.is_valid g.B.Behavior.rules c.args.self.now
at_work g c = subst (λ (a : ActorState g.row.B.Denot). IsAtWork g.B.Behavior.is_valid g.B.Behavior.rules a) c.self.view_is (c.self.invariant c.if-self.false)

fits_entries : (g : Over) (s : g.row.B.Denot) (i : PlainInput) → g.B.Behavior.is_valid s → MayBeGiven g.B.Behavior.rules s i → InputFits (entry_shape g.B.Entries.entries) i
    → ReactionFits (entry_shape g.B.Entries.entries) (g.B.Behavior.rules.reaction s i)
fits_entries g s i valid given fits = g.met.B.Behavior.fits_its_entries s i valid given fits

pub returns-clause-fit : goal.returns-clause-fit
returns-clause-fit g c = λ shape_of h k.
    subst (λ (s : Snapshot g.row.B.Denot). CachesFit shape_of s.caches) (after g c) (batch_fit g.B.Behavior.rules shape_of c.args.self.now.snapshot (map plain_envelope c.args.batch) h k)

pub returns-clause-delays_fit : goal.returns-clause-delays_fit
returns-clause-delays_fit g c = λ caches delays fits.
    let b = g.B.Behavior in
    let laws = g.met.B.Behavior in
    let shape_of = entry_shape g.B.Entries.entries in
    let was = at_work g c in
    let sound = fit_batch b.is_valid b.rules laws.stays_valid laws.stays_same_actor laws.sends_to_peers shape_of (fits_entries g) c.args.self.now.snapshot (map plain_envelope c.args.batch) was.valid was.own caches delays fits in
    subst (λ (s : Snapshot g.row.B.Denot). DelaysFit shape_of s.delays) (after g c)
    (delays_fit b.is_valid b.rules laws.stays_valid laws.stays_same_actor laws.sends_to_peers shape_of (fits_entries g) _ sound.delays)

pub returns-clause-posts_fit : goal.returns-clause-posts_fit
returns-clause-posts_fit g c = λ caches delays fits.
    let b = g.B.Behavior in
    let laws = g.met.B.Behavior in
    let shape_of = entry_shape g.B.Entries.entries in
    let was = at_work g c in
    let sound = fit_batch b.is_valid b.rules laws.stays_valid laws.stays_same_actor laws.sends_to_peers shape_of (fits_entries g) c.args.self.now.snapshot (map plain_envelope c.args.batch) was.valid was.own caches delays fits in
    subst (λ (ps : List PlainPost). AllByRecursion (PostFits shape_of) ps) (posted g c)
    (posts_fit b.is_valid b.rules laws.stays_valid laws.stays_same_actor laws.sends_to_peers shape_of (fits_entries g) _ sound.posts)

pub returns-clause-form : goal.returns-clause-form
returns-clause-form g c =
    let b = g.B.Behavior in
    let laws = g.met.B.Behavior in
    let was = at_work g c in
    let sound = work_batch b.is_valid b.rules laws.stays_valid laws.stays_same_actor laws.sends_to_peers c.args.self.now.snapshot (map plain_envelope c.args.batch) was.valid was.own in
    subst (λ (ps : List PlainPost). AllByRecursion IsPostInForm ps) (posted g c) (posts_in_form (λ p. Unit {0}) (λ body. Unit {0}) _ sound.posts)

pub returns-clause-within : goal.returns-clause-within
returns-clause-within g c = λ known h k.
    let b = g.B.Behavior in
    let laws = g.met.B.Behavior in
    let K : ℕ → Type 0 = λ p. IsTrue (known p) in
    let was = at_work g c in
    let sound = within_batch b.is_valid b.rules laws.stays_valid laws.stays_same_actor laws.sends_to_peers K c.args.self.now.snapshot (map plain_envelope c.args.batch) was.valid was.own h k in
    subst (λ (s : Snapshot g.row.B.Denot). StaysWithin K b.rules s) (after g c) (stays_within b.is_valid b.rules laws.stays_valid laws.stays_same_actor laws.sends_to_peers K _ sound)

pub returns-clause-receivers : goal.returns-clause-receivers
returns-clause-receivers g c = λ known h k.
    let b = g.B.Behavior in
    let laws = g.met.B.Behavior in
    let K : ℕ → Type 0 = λ p. IsTrue (known p) in
    let was = at_work g c in
    let sound = within_batch b.is_valid b.rules laws.stays_valid laws.stays_same_actor laws.sends_to_peers K c.args.self.now.snapshot (map plain_envelope c.args.batch) was.valid was.own h k in
    subst (λ (ps : List PlainPost). AllByRecursion (GoesWithin K) ps) (posted g c) (posts_within b.is_valid b.rules laws.stays_valid laws.stays_same_actor laws.sends_to_peers K _ sound.posts)

-- and it is at work afterwards
still : (g : Over) (c : goal.After-into_seq g)
    → IsAtWork g.B.Behavior.is_valid g.B.Behavior.rules (record { snapshot = c.drain.new.self; journal = c.push.new.self; handled = c.saturating_add-self-inside.result; is_broken = false })
still g c =
    let b = g.B.Behavior in
    let laws = g.met.B.Behavior in
    let handled = c.saturating_add-self-inside.result in
    let last : TakenBatch = record { stamp = c.file.new.self.stamp; taken = c.in_ok-batch.taken } in
    let journal : c.args.self.now.journal ++ last ∷ [] ≡ c.push.new.self = ap (λ (a : ActorState g.row.B.Denot). a.journal ++ last ∷ []) (sym c.self.view_is) ∙ sym c.in_ok-push.ensures.added in
    let worked = still_at_work b.is_valid b.rules laws.stays_valid laws.stays_same_actor laws.sends_to_peers c.args.self.now (map plain_envelope c.args.batch) last handled (at_work g c) c.requires.stamp c.requires.stamps in
    subst (λ (s : Snapshot g.row.B.Denot). IsAtWork b.is_valid b.rules (record { snapshot = s; journal = c.push.new.self; handled = handled; is_broken = false })) (after g c)
    (subst (λ (taken : List TakenBatch). IsAtWork b.is_valid b.rules (record {
      snapshot = (batch_of b.rules c.args.self.now.snapshot (map plain_envelope c.args.batch)).snapshot;
      journal = taken;
      handled = handled;
      is_broken = false;
    })) journal worked)

pub returns-clause-work : goal.returns-clause-work
returns-clause-work g c = still g c

pub invariant_of-self-2 : goal.invariant_of-self-2
invariant_of-self-2 g c = λ whole. still g c

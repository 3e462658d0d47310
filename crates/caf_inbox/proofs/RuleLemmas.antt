-- Each step keeps the inbox rule, and what a reader and a lane learn from it.
use Rattle.std.proofs.Common.{◌≡◌, ◌≢◌, ℕ, ◌==◌, true, false, if◌then◌else◌, List, [], ◌∷◌, ◌++◌, length, set, map, Contains, sym, refl, ap, ◌∙◌, subst, append_assoc, append-nil, eq-eqb, ne_eqb}
use Rattle.std.proofs.lemmas.List.{map-append}
use Rattle.std.proofs.lemmas.List.Elements.{Contains-append_left, Contains-push}
use mathlib.Core.Option.{some}
use lib.ListN.{get_elem?}
use Rattle.crossbeam_queue.specs.Fifo.{Pushes, Pops, Forks, Merges, Learns}
use Rattle.caf_message.specs.Envelope.{plain_envelope}
use Rattle.caf_message.specs.declared.envelope.Envelope.{Envelope}
use Rattle.caf_message.specs.declared.envelope.Taken.{Taken}
use Rattle.caf_inbox.specs.declared.view.Note.{Note}
use Rattle.caf_inbox.specs.declared.view.View.{View}
use Rattle.caf_inbox.specs.declared.view.Role.{Role}
use Rattle.caf_inbox.specs.declared.view.Role.TheVariants.{Reading, Sending, LaneNoted, ReaderNoted, Spent}
use Rattle.caf_inbox.specs.Senders.{from_sender, AreFrom, IsPrefix, AreWithin, AreBehind}
use Rattle.caf_inbox.specs.Views.{new_reader, new_lane, with_lane, logged, lane_note, reader_note, with_lane_note, with_reader_note, spent}
use Rattle.caf_inbox.specs.Rule.{Knows, InboxRule}
use Rattle.caf_inbox.proofs.ListLemmas.{Each, each_set, each_push, each_one, stood_at, all_push, all_middle, all_last, all_weaker}
use Rattle.caf_inbox.proofs.SenderLemmas.{from_sender-push_own, from_sender-push_other, from_sender-none, from_sender-prefix, from_sender-prefix_of_more, is_prefix_of_same, is_prefix_of_more, are_within_more, are_before_more, are_behind_more, are_behind_pushed}

-- ---- the other passes, as the lists grow

module _ (reader : ℕ) (lane : ℕ → ℕ) (senders : List ℕ) (taken all : List Taken) (j : ℕ) (u : View) (e : Taken) where
  after_push : (r : Role) → (j ≡ lane u.sender → e.sender ≢ u.sender) → Knows reader lane senders taken all j u r → Knows reader lane senders taken (all ++ e ∷ []) j u r
  after_push Reading apart h = (h.0, h.1, h.2, are_within_more all (e ∷ []) u.met h.3)
  after_push Sending apart h = (h.0, h.1, h.2 ∙ sym (from_sender-push_other u.sender all e (apart h.0)), h.3)
  after_push LaneNoted apart h = from_sender-prefix_of_more u.sender u.log all (e ∷ []) h
  after_push ReaderNoted apart h = h
  after_push Spent apart h = h

  after_pop : (r : Role) → j ≢ reader → Knows reader lane senders taken all j u r → Knows reader lane senders (taken ++ e ∷ []) all j u r
  after_pop Reading apart h = absurd (apart h.0)
  after_pop Sending apart h = (h.0, h.1, h.2, are_before_more taken (e ∷ []) u.heard h.3)
  after_pop LaneNoted apart h = h
  after_pop ReaderNoted apart h = is_prefix_of_more u.log taken (e ∷ []) h
  after_pop Spent apart h = h

-- the place of each sender's lane, once this sender has one at a place
abbrev with_place : (ℕ → ℕ) → ℕ → ℕ → ℕ → ℕ
with_place lane s place = λ a. if a == s then place else lane a

module _ (reader : ℕ) (lane : ℕ → ℕ) (senders : List ℕ) (taken all : List Taken) (j : ℕ) (u : View) where
  after_lane : (s place : ℕ) (r : Role) → j ≢ reader → ¬ Contains senders s → Knows reader lane senders taken all j u r
      → Knows reader (with_place lane s place) (senders ++ s ∷ []) taken all j u r
  after_lane s place Reading apart new h = absurd (apart h.0)
  after_lane s place Sending apart new h =
      let q : (u.sender == s) ≡ false = ne_eqb u.sender s (λ same. new (subst (λ a. Contains senders a) same h.1)) in (rw q h.0, Contains-append_left senders (s ∷ []) u.sender h.1, h.2, h.3)
  after_lane s place LaneNoted apart new h = h
  after_lane s place ReaderNoted apart new h = h
  after_lane s place Spent apart new h = h

-- ---- the rule, at a pass whose role is known

-- all that was taken or is held
abbrev all_of : List Taken → List Envelope → List Taken
all_of taken held = taken ++ map plain_envelope held

module _ {held : List Envelope} {views : List View} (d : InboxRule held views) where
  -- what the rule says of a pass
  abbrev Now : ℕ → View → Type 0
  Now j u = Knows d.reader d.lane d.senders d.taken (all_of d.taken held) j u u.role

  at_role : (place : ℕ) (v : View) (r : Role) → v.role ≡ r → get_elem? views place ≡ some v → Knows d.reader d.lane d.senders d.taken (all_of d.taken held) place v r
  at_role place v r is at = subst (λ x. Knows d.reader d.lane d.senders d.taken (all_of d.taken held) place v x) is (d.each place v at)

  -- the same queue, and views of which the rule says the same
  same_queue : (others : List View) → Each Now others → InboxRule held others
  same_queue others each = record { reader = d.reader; lane = d.lane; senders = d.senders; taken = d.taken; from_lanes = d.from_lanes; each = each }

-- ---- the steps

pub begins : InboxRule [] (new_reader ∷ [])
begins = record {
  reader = 0;
  lane = λ _. 0;
  senders = [];
  taken = [];
  from_lanes = tt;
  each = each_one (λ j u. Knows 0 (λ _. 0) [] [] [] j u u.role) new_reader (refl, refl, refl, tt);
}

pub pushes : (n place : ℕ) (v : View) (x : Envelope) → v.role ≡ Sending → x.sender ≡ v.sender → Pushes InboxRule n place v x (λ w. w ≡ logged v (plain_envelope x))
pushes n place v x is own held views room d at =
    let e : Taken = plain_envelope x in
    let w : View = logged v e in
    let mine = at_role d place v Sending is at in
    let all : List Taken = all_of d.taken held in
    let joined : all ++ e ∷ [] ≡ all_of d.taken (held ++ x ∷ []) =
    append_assoc d.taken (map plain_envelope held) (e ∷ []) ∙ ap (λ l. d.taken ++ l) (sym (map-append plain_envelope held (x ∷ []))) in
    let F : List Taken → ℕ → View → Type 0 = λ l j u. Knows d.reader d.lane d.senders d.taken l j u u.role in
    let here : Knows d.reader d.lane d.senders d.taken (all ++ e ∷ []) place w Sending =
    (mine.0, mine.1, ap (λ l. l ++ e ∷ []) mine.2 ∙ sym (from_sender-push_own v.sender all e own), mine.3) in
    let each : Each (F (all ++ e ∷ [])) (set views place w) =
    each_set (F (all ++ e ∷ [])) views place w (subst (λ r. Knows d.reader d.lane d.senders d.taken (all ++ e ∷ []) place w r) (sym is) here)
    (λ j u other k. after_push d.reader d.lane d.senders d.taken all j u e u.role (λ p same. other (p ∙ ap d.lane (sym same ∙ own) ∙ sym mine.0)) (d.each j u k)) in
    let known : AreFrom d.senders (all ++ e ∷ []) = all_push (λ a. Contains d.senders a.sender) all e d.from_lanes (subst (λ a. Contains d.senders a) (sym own) mine.1) in (
      w,
      record {
        reader = d.reader;
        lane = d.lane;
        senders = d.senders;
        taken = d.taken;
        from_lanes = subst (λ l. AreFrom d.senders l) joined known;
        each = subst (λ l. Each (F l) (set views place w)) joined each;
      },
      refl,
    )

pub pops : (place : ℕ) (v : View) → v.role ≡ Reading → Pops InboxRule place v (λ x w. (w ≡ logged v (plain_envelope x)) × Contains v.senders x.sender)
pops place v is x held views d at =
    let e : Taken = plain_envelope x in
    let w : View = logged v e in
    let mine = at_role d place v Reading is at in
    let all : List Taken = all_of d.taken (x ∷ held) in
    let more : List Taken = d.taken ++ e ∷ [] in
    let joined : all ≡ all_of more held = sym (append_assoc d.taken (e ∷ []) (map plain_envelope held)) in
    let F : List Taken → ℕ → View → Type 0 = λ l j u. Knows d.reader d.lane d.senders more l j u u.role in
    let here : Knows d.reader d.lane d.senders more all place w Reading = (mine.0, ap (λ l. l ++ e ∷ []) mine.1, mine.2, mine.3) in
    let each : Each (F all) (set views place w) =
    each_set (F all) views place w (subst (λ r. Knows d.reader d.lane d.senders more all place w r) (sym is) here)
    (λ j u other k. after_pop d.reader d.lane d.senders d.taken all j u e u.role (λ p. other (p ∙ sym mine.0)) (d.each j u k)) in (
      w,
      record {
        reader = d.reader;
        lane = d.lane;
        senders = d.senders;
        taken = more;
        from_lanes = subst (λ l. AreFrom d.senders l) joined d.from_lanes;
        each = subst (λ l. Each (F l) (set views place w)) joined each;
      },
      (refl, subst (λ l. Contains l x.sender) (sym mine.2) (all_middle (λ a. Contains d.senders a.sender) d.taken (map plain_envelope held) e d.from_lanes)),
    )

pub cuts_lane : (place : ℕ) (v : View) (s : ℕ) → v.role ≡ Reading → ¬ Contains v.senders s → Forks InboxRule place v (with_lane s v) (new_lane s)
cuts_lane place v s is new held views d at =
    let mine = at_role d place v Reading is at in
    let all : List Taken = all_of d.taken held in
    let fresh : ¬ Contains d.senders s = λ h. new (subst (λ l. Contains l s) (sym mine.2) h) in
    let w : View = with_lane s v in
    let vs : List View = set views place w in
    let senders : List ℕ = d.senders ++ s ∷ [] in
    let lane : ℕ → ℕ = with_place d.lane s (length vs) in
    let F : ℕ → View → Type 0 = λ j u. Knows d.reader lane senders d.taken all j u u.role in
    let here : Knows d.reader lane senders d.taken all place w Reading = (mine.0, mine.1, ap (λ l. l ++ s ∷ []) mine.2, mine.3) in
    let old : Each F vs =
    each_set F views place w (subst (λ r. Knows d.reader lane senders d.taken all place w r) (sym is) here)
    (λ j u other k. after_lane d.reader d.lane d.senders d.taken all j u s (length vs) u.role (λ p. other (p ∙ sym mine.0)) fresh (d.each j u k)) in
    let self : (s == s) ≡ true = eq-eqb s s refl in
    record {
      reader = d.reader;
      lane = lane;
      senders = senders;
      taken = d.taken;
      from_lanes = all_weaker (λ a. Contains d.senders a.sender) (λ a. Contains senders a.sender) (λ a h. Contains-append_left d.senders (s ∷ []) a.sender h) all d.from_lanes;
      each = each_push F vs (new_lane s) old (rw self refl, Contains-push d.senders s, sym (from_sender-none s d.senders all fresh d.from_lanes), tt);
    }

-- a note is a copy of what its maker knows now
makes_note : (place : ℕ) (v w : View) (held : List Envelope) (views : List View) (d : InboxRule held views) → get_elem? views place ≡ some v → Now d (length (set views place v)) w
    → InboxRule held (set views place v ++ w ∷ [])
makes_note place v w held views d at h =
    same_queue d (set views place v ++ w ∷ []) (each_push (Now d) (set views place v) w (each_set (Now d) views place v (d.each place v at) (λ j u other k. d.each j u k)) h)

pub notes_lane : (place : ℕ) (v : View) → v.role ≡ Sending → Forks InboxRule place v v (lane_note v)
notes_lane place v is held views d at = makes_note place v (lane_note v) held views d at (is_prefix_of_same v.log (from_sender v.sender (all_of d.taken held)) (at_role d place v Sending is at).2)

pub notes_reader : (place : ℕ) (v : View) → v.role ≡ Reading → Forks InboxRule place v v (reader_note v)
notes_reader place v is held views d at = makes_note place v (reader_note v) held views d at (is_prefix_of_same v.log d.taken (at_role d place v Reading is at).1)

-- a note is met, and spent
meets_note : (place : ℕ) (w : View) (other : ℕ) (held : List Envelope) (views : List View) (d : InboxRule held views) → Now d place w → InboxRule held (set (set views place w) other spent)
meets_note place w other held views d h =
    let met : Each (Now d) (set views place w) = each_set (Now d) views place w h (λ j u apart k. d.each j u k) in
    same_queue d (set (set views place w) other spent) (each_set (Now d) (set views place w) other spent tt (λ j u apart k. met j u k))

pub meets_lane : (place : ℕ) (v : View) (other : ℕ) (n : View) → v.role ≡ Reading → n.role ≡ LaneNoted → Merges InboxRule place v other n (with_lane_note v n) spent
meets_lane place v other n is is_note held views d at two at_note =
    let all : List Taken = all_of d.taken held in
    let mine = at_role d place v Reading is at in
    let theirs = at_role d other n LaneNoted is_note (stood_at views place other (with_lane_note v n) n two at_note) in
    let here : Knows d.reader d.lane d.senders d.taken all place (with_lane_note v n) Reading =
    (mine.0, mine.1, mine.2, all_push (λ (m : Note). IsPrefix m.pushed (from_sender m.sender all)) v.met (record { sender = n.sender; pushed = n.log }) mine.3 theirs) in
    meets_note place (with_lane_note v n) other held views d (subst (λ r. Knows d.reader d.lane d.senders d.taken all place (with_lane_note v n) r) (sym is) here)

pub meets_reader : (place : ℕ) (v : View) (other : ℕ) (n : View) → v.role ≡ Sending → n.role ≡ ReaderNoted → Merges InboxRule place v other n (with_reader_note v n) spent
meets_reader place v other n is is_note held views d at two at_note =
    let all : List Taken = all_of d.taken held in
    let mine = at_role d place v Sending is at in
    let theirs = at_role d other n ReaderNoted is_note (stood_at views place other (with_reader_note v n) n two at_note) in
    let here : Knows d.reader d.lane d.senders d.taken all place (with_reader_note v n) Sending =
    (mine.0, mine.1, mine.2, all_push (λ (m : List Taken). IsPrefix m d.taken) v.heard n.log mine.3 theirs) in
    meets_note place (with_reader_note v n) other held views d (subst (λ r. Knows d.reader d.lane d.senders d.taken all place (with_reader_note v n) r) (sym is) here)

-- ---- what is learnt

pub learns_reader : (place : ℕ) (v : View) → v.role ≡ Reading → Learns InboxRule place v (λ held. held ≡ [] → AreWithin v.log v.met)
learns_reader place v is held views d at none =
    let mine = at_role d place v Reading is at in
    subst (λ l. AreWithin l v.met) (ap (λ l. all_of d.taken l) none ∙ append-nil d.taken ∙ sym mine.1) mine.3

pub learns_lane : (place : ℕ) (v : View) → v.role ≡ Sending → Learns InboxRule place v (λ held. AreBehind v.sender v.log v.heard)
learns_lane place v is held views d at =
    let mine = at_role d place v Sending is at in are_behind_pushed v.sender v.log d.taken (map plain_envelope held) v.heard mine.2 mine.3

-- what the reader took of a sender is a prefix of what its lane pushed
pub taken_before_pushed : (held : List Envelope) (views : List View) (d : InboxRule held views) (i j : ℕ) (r l : View) → get_elem? views i ≡ some r → get_elem? views j ≡ some l
    → r.role ≡ Reading → l.role ≡ Sending → IsPrefix (from_sender l.sender r.log) l.log
taken_before_pushed held views d i j r l at_r at_l reads sends =
    let mine = at_role d i r Reading reads at_r in
    let theirs = at_role d j l Sending sends at_l in
    subst (λ xs. IsPrefix (from_sender l.sender r.log) xs) (sym theirs.2)
    (from_sender-prefix l.sender r.log (all_of d.taken held) (is_prefix_of_more r.log d.taken (map plain_envelope held) (is_prefix_of_same r.log d.taken mine.1)))

-- what the last of the notes says, of a lane that has just met it
pub last_met : (v n w : View) → w ≡ with_reader_note v n → AreBehind w.sender w.log w.heard → IsPrefix (from_sender v.sender n.log) v.log
last_met v n w e h = all_last (λ (m : List Taken). IsPrefix (from_sender v.sender m) v.log) v.heard n.log (subst (λ (y : View). AreBehind y.sender y.log y.heard) e h)

-- ---- what a lane keeps

-- it sends, for this sender, and by each note that it has met, what was taken is a prefix of what it pushed
abbrev pub IsLane : ℕ → View → Type 0
IsLane s v = (v.role ≡ Sending) × AreBehind v.sender v.log v.heard × (s ≡ v.sender)

pub is_lane_pushed : (s : ℕ) (v w : View) (e : Taken) → w ≡ logged v e → v.role ≡ Sending → AreBehind v.sender v.log v.heard → s ≡ v.sender → IsLane s w
is_lane_pushed s v w e is sends behind own = subst (IsLane s) (sym is) (sends, are_behind_more v.sender v.log (e ∷ []) v.heard behind, own)

pub is_lane_same : (s : ℕ) (v w : View) → w ≡ v → v.role ≡ Sending → AreBehind v.sender v.log v.heard → s ≡ v.sender → IsLane s w
is_lane_same s v w is sends behind own = subst (IsLane s) (sym is) (sends, behind, own)

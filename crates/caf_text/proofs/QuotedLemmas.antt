-- What stands between quotes: how far its reader goes.
use Rattle.std.proofs.Common.{◌≡◌, ℕ, ◌+◌, ◌*◌, ◌/◌, ◌%◌, ◌<◌, eqb, eqb-true, nat_lt, ltb-true, Bool, true, false, true≢false, ◌⊎◌, inl, inr, List, [], ◌∷◌, ◌++◌, length, slice_index, flat_map, drop, Option, Some, None, Ok, Err, IsUtf8, refl, sym, ap, subst, ◌∙◌, append_assoc, append-nil, arith}
use Rattle.std.specs.Str.{is_utf8}
use Rattle.std.proofs.lemmas.Str.{IsUtf8-append, IsUtf8-nil, is_utf8-from_IsUtf8, IsUtf8-from_is_utf8}
use Rattle.hex.specs.Hex.{lower_digits, encode_lower, encode_with}
use Rattle.caf_types.specs.ShapeTree.{text, bytes}
use Rattle.caf_words.specs.Datum.{a_text, some_bytes}
use Rattle.caf_words.specs.Reading.{◌>>=◌}
use Rattle.caf_words.specs.Spelling.{AreBytes}
use Rattle.caf_text.specs.TextForm.{escape, is_escaped, text_form}
use Rattle.caf_text.specs.TextReading.{move, unquoted, digit_value, pair_value, reading}
use Rattle.caf_text.specs.declared.quoted.Mark.{Mark}
use Rattle.caf_text.specs.declared.quoted.Mark.TheVariants as marks
use Rattle.caf_text.specs.declared.quoted.Move.TheVariants as moves
use Rattle.caf_text.proofs.DigitLemmas.{digit_is, pair_is}
use Rattle.caf_text.proofs.Utf8Lemmas.{AsciiFirst, front_valid, after_ascii, low_valid, plain_escape, escaped_is, unescaped}
use Rattle.caf_text.proofs.StopLemmas.{ends, Stops, heads, no_cons, as_stops, literal_then}
use Rattle.caf_text.proofs.ValueLemmas.{IsValue}

-- ---- any content

module _ (Fits : Mark → List ℕ → Type 0) (written : Mark → List ℕ → List ℕ) (whole : List ℕ → List ℕ) where
  -- what a byte does behind a mark, and what is then written
  pub data Step (m : Mark) (bs : List ℕ) (c : ℕ) : Type 0 where
    closes : move m c ≡ moves.Close → whole bs ≡ written m bs ++ c ∷ [] → Step m bs c
    goes : (n : Mark) → move m c ≡ moves.Go n → Fits n bs → written n bs ≡ written m bs ++ c ∷ [] → Step m bs c
    puts : (n : Mark) (b : ℕ) → move m c ≡ moves.Put n b → Fits n (bs ++ b ∷ []) → written n (bs ++ b ∷ []) ≡ written m bs ++ c ∷ [] → Step m bs c
    halts : move m c ≡ moves.Halt → Step m bs c

  -- the content, or a mark behind which the next byte can't stand
  abbrev pub Left : Mark → List ℕ → Option (List ℕ) → List ℕ → List ℕ → Type 0
  Left m bs (Some xs) front back = (n : Mark) × Fits n xs × (written m bs ++ front ≡ whole xs)
  Left m bs None front back = (n : Mark) × (xs : List ℕ) × Fits n xs × (written m bs ++ front ≡ written n xs) × ((c : ℕ) (r : List ℕ) → back ≡ c ∷ r → move n c ≡ moves.Halt)

  pub record RunAt (cs : List ℕ) (m : Mark) (bs : List ℕ) (o : Option (List ℕ)) (front back : List ℕ) : Type 0 where
    pub parts : cs ≡ front ++ back
    pub is : unquoted cs m bs ≡ ends o back
    pub local : (c : ℕ) (r s : List ℕ) → back ≡ c ∷ r → unquoted (front ++ c ∷ s) m bs ≡ ends o (c ∷ s)
    pub left : Left m bs o front back

  abbrev pub Run : List ℕ → Mark → List ℕ → Type 0
  Run cs m bs = (o : Option (List ℕ)) × (front : List ℕ) × (back : List ℕ) × RunAt cs m bs o front back

  module _ (step : (m : Mark) (bs : List ℕ) (c : ℕ) → Fits m bs → Step m bs c) where
    left_more : (m : Mark) (bs : List ℕ) (c : ℕ) (n : Mark) (ys : List ℕ) (o : Option (List ℕ)) (front back : List ℕ) → written n ys ≡ written m bs ++ c ∷ [] → Left n ys o front back → Left m bs o (c ∷ front) back
    left_more m bs c n ys (Some xs) front back e l = (l.0, l.1, sym (append_assoc (written m bs) (c ∷ []) front) ∙ ap (λ zs. zs ++ front) (sym e) ∙ l.2)
    left_more m bs c n ys None front back e l = (l.0, l.1, l.2, sym (append_assoc (written m bs) (c ∷ []) front) ∙ ap (λ zs. zs ++ front) (sym e) ∙ l.3, l.4)

    further : (c : ℕ) (cs : List ℕ) (m : Mark) (bs : List ℕ) (n : Mark) (ys : List ℕ) → ((xs : List ℕ) → unquoted (c ∷ xs) m bs ≡ unquoted xs n ys) → written n ys ≡ written m bs ++ c ∷ [] → Run cs n ys → Run (c ∷ cs) m bs
    further c cs m bs n ys same e p = (
      p.0,
      c ∷ p.1,
      p.2,
      record {
        parts = ap (λ zs. c ∷ zs) p.3.parts;
        is = same cs ∙ p.3.is;
        local = λ d r s h. same (p.1 ++ d ∷ s) ∙ p.3.local d r s h;
        left = left_more m bs c n ys p.0 p.1 p.2 e p.3.left;
      },
    )

    pub run : (cs : List ℕ) (m : Mark) (bs : List ℕ) → Fits m bs → Run cs m bs
    run [] m bs h = (None, [], [], record { parts = refl; is = refl; local = λ c r s e. absurd (no_cons e); left = (m, bs, h, append-nil (written m bs), λ c r e. absurd (no_cons e)) })
    run (c ∷ cs) m bs h = go (step m bs c h) (run cs)
      where
        go : Step m bs c → ((n : Mark) (ys : List ℕ) → Fits n ys → Run cs n ys) → Run (c ∷ cs) m bs
        go (closes e w) rest = (
          Some bs,
          c ∷ [],
          cs,
          record {
            parts = refl;
            is = rw e refl;
            local = λ d r s q. rw e refl;
            left = (m, h, sym w);
          },
        )
        go (goes n e f w) rest = further c cs m bs n bs (λ xs. rw e refl) w (rest n bs f)
        go (puts n b e f w) rest = further c cs m bs n (bs ++ b ∷ []) (λ xs. rw e refl) w (rest n (bs ++ b ∷ []) f)
        go (halts e) rest = (
          None,
          [],
          c ∷ cs,
          record {
            parts = refl;
            is = rw e refl;
            local = λ d r s q. subst (λ x. unquoted (x ∷ s) m bs ≡ Err (length (x ∷ s))) (heads q) (rw e refl);
            left = (m, bs, h, append-nil (written m bs), λ d r q. subst (λ x. move m x ≡ moves.Halt) (heads q) e);
          },
        )

-- ---- bytes

encode_more : (bs : List ℕ) (b : ℕ) → encode_lower (bs ++ b ∷ []) ≡ encode_lower bs ++ slice_index lower_digits (b / 16) ∷ slice_index lower_digits (b % 16) ∷ []
unfolding encode_with
encode_more [] b = refl
encode_more (x ∷ bs) b = ap (λ zs. slice_index lower_digits (x / 16) ∷ slice_index lower_digits (x % 16) ∷ zs) (encode_more bs b)

bytes_more : (bs : List ℕ) (b : ℕ) → AreBytes bs → b < 256 → AreBytes (bs ++ b ∷ [])
bytes_more [] b h l = (l, tt)
bytes_more (x ∷ bs) b h l = (h.0, bytes_more bs b h.1 l)

abbrev BytesFit : Mark → List ℕ → Type 0
BytesFit marks.Bytes bs = AreBytes bs
BytesFit (marks.Pair f) bs = AreBytes bs × (h : ℕ) × (digit_value f ≡ Some h)
BytesFit _ bs = ⊥

abbrev bytes_written : Mark → List ℕ → List ℕ
bytes_written (marks.Pair f) bs = encode_lower bs ++ f ∷ []
bytes_written _ bs = encode_lower bs

abbrev bytes_whole : List ℕ → List ℕ
bytes_whole bs = encode_lower bs ++ 34 ∷ []

abbrev BytesStep : Mark → List ℕ → ℕ → Type 0
BytesStep = Step BytesFit bytes_written bytes_whole

-- two digits, as they are written
pair_written : (f c b : ℕ) → pair_value (digit_value f) (digit_value c) ≡ Some b → (b < 256) × (f ≡ slice_index lower_digits (b / 16)) × (c ≡ slice_index lower_digits (b % 16))
pair_written f c b e =
    let p = pair_is (digit_value f) (digit_value c) b e in
    let x = digit_is f p.0 p.2 in
    let y = digit_is c p.1 p.3 in
    let xl : p.0 < 16 = x.0 in
    let yl : p.1 < 16 = y.0 in
    let sum : p.0 * 16 + p.1 ≡ b = p.4 in
    let high : p.0 ≡ b / 16 = omega arith in
    let low : p.1 ≡ b % 16 = omega arith in
    (omega arith, x.1 ∙ ap (slice_index lower_digits) high, y.1 ∙ ap (slice_index lower_digits) low)

pair_step : (f : ℕ) (bs : List ℕ) (c : ℕ) → AreBytes bs → BytesStep (marks.Pair f) bs c
pair_step f bs c h = go (pair_value (digit_value f) (digit_value c)) refl
  where
    go : (o : Option ℕ) → pair_value (digit_value f) (digit_value c) ≡ o → BytesStep (marks.Pair f) bs c
    go None q = halts (rw q refl)
    go (Some b) q =
        let w = pair_written f c b q in
        puts marks.Bytes b (rw q refl) (bytes_more bs b h w.0)
        (encode_more bs b ∙ ap (λ z. encode_lower bs ++ z ∷ slice_index lower_digits (b % 16) ∷ []) (sym w.1) ∙ ap (λ z. encode_lower bs ++ f ∷ z ∷ []) (sym w.2) ∙ sym (append_assoc (encode_lower bs) (f ∷ []) (c ∷ [])))

first_step : (bs : List ℕ) (c : ℕ) → AreBytes bs → BytesStep marks.Bytes bs c
first_step bs c h = go (eqb c 34) refl (digit_value c) refl
  where
    go : (t : Bool) → eqb c 34 ≡ t → (o : Option ℕ) → digit_value c ≡ o → BytesStep marks.Bytes bs c
    go true q o e = closes (rw q refl) (ap (λ z. encode_lower bs ++ z ∷ []) (sym (eqb-true _ _ q)))
    go false q None e = halts (rw (q, e) refl)
    go false q (Some d) e = goes (marks.Pair c) (rw (q, e) refl) (h, d, e) refl

bytes_step : (m : Mark) (bs : List ℕ) (c : ℕ) → BytesFit m bs → BytesStep m bs c
bytes_step marks.Bytes bs c h = first_step bs c h
bytes_step (marks.Pair f) bs c h = pair_step f bs c h.0
bytes_step marks.Text bs c h = absurd h
bytes_step marks.Slash bs c h = absurd h
bytes_step marks.Escape bs c h = absurd h
bytes_step (marks.Half f) bs c h = absurd h

bytes_completed : (n : Mark) (xs : List ℕ) → BytesFit n xs → (ys : List ℕ) × (more : List ℕ) × AreBytes ys × (bytes_written n xs ++ more ≡ bytes_whole ys)
bytes_completed marks.Bytes xs h = (xs, 34 ∷ [], h, refl)
bytes_completed (marks.Pair f) xs h =
    let d = digit_is f h.1 h.2 in
    let low : h.1 < 16 = d.0 in
    let a : h.1 * 16 / 16 ≡ h.1 = omega arith in
    let b : h.1 * 16 % 16 ≡ 0 = omega arith in (
      xs ++ (h.1 * 16) ∷ [],
      48 ∷ 34 ∷ [],
      bytes_more xs (h.1 * 16) h.0 (omega arith),
      append_assoc (encode_lower xs) (f ∷ []) (48 ∷ 34 ∷ []) ∙ ap (λ z. encode_lower xs ++ z ∷ 48 ∷ 34 ∷ []) d.1
          ∙ sym (ap (λ zs. zs ++ 34 ∷ []) (encode_more xs (h.1 * 16)) ∙ rw (a, b) (append_assoc (encode_lower xs) (slice_index lower_digits h.1 ∷ 48 ∷ []) (34 ∷ []))),
    )
bytes_completed marks.Text xs h = absurd h
bytes_completed marks.Slash xs h = absurd h
bytes_completed marks.Escape xs h = absurd h
bytes_completed (marks.Half f) xs h = absurd h

are_bytes : (n : Mark) (xs : List ℕ) → BytesFit n xs → AreBytes xs
are_bytes marks.Bytes xs h = h
are_bytes (marks.Pair f) xs h = h.0
are_bytes marks.Text xs h = absurd h
are_bytes marks.Slash xs h = absurd h
are_bytes marks.Escape xs h = absurd h
are_bytes (marks.Half f) xs h = absurd h

-- the content of bytes, behind the opening quote
module _ (cs : List ℕ) where
  bytes_read : (o : Option (List ℕ)) (front back : List ℕ) → RunAt BytesFit bytes_written bytes_whole cs marks.Bytes [] o front back
      → Stops (IsValue bytes) (λ d. drop 2 (text_form bytes d)) (λ ys. unquoted ys marks.Bytes [] >>= λ y. Ok (some_bytes y.0, y.1)) cs
  unfolding encode_with
  bytes_read (Some xs) front back r = (
    Some (some_bytes xs),
    front,
    back,
    record {
      parts = r.parts;
      is = ap (λ y. y >>= λ x. Ok (some_bytes x.0, x.1)) r.is;
      local = λ c t s e. ap (λ y. y >>= λ x. Ok (some_bytes x.0, x.1)) (r.local c t s e);
      good = λ before u. ((xs, are_bytes r.left.0 xs r.left.1, refl), r.left.2);
    },
  )
  bytes_read None front back r = (
    None,
    front,
    back,
    record {
      parts = r.parts;
      is = ap (λ y. y >>= λ x. Ok (some_bytes x.0, x.1)) r.is;
      local = λ c t s e. ap (λ y. y >>= λ x. Ok (some_bytes x.0, x.1)) (r.local c t s e);
      good = λ before u.
          let k = bytes_completed r.left.0 r.left.1 r.left.2 in
          (some_bytes k.0, k.1, (k.0, k.2, refl), ap (λ zs. zs ++ k.1) r.left.3 ∙ k.3);
    },
  )

content_of_bytes : (cs : List ℕ) → Stops (IsValue bytes) (λ d. drop 2 (text_form bytes d)) (λ ys. unquoted ys marks.Bytes [] >>= λ y. Ok (some_bytes y.0, y.1)) cs
content_of_bytes cs = let p = run BytesFit bytes_written bytes_whole bytes_step cs marks.Bytes [] tt in bytes_read cs p.0 p.1 p.2 p.3

pub bytes_stops : (cs : List ℕ) → Stops (IsValue bytes) (text_form bytes) (reading bytes) cs
bytes_stops cs = as_stops (IsValue bytes) (λ d. (120 ∷ 34 ∷ []) ++ drop 2 (text_form bytes d)) (IsValue bytes) (text_form bytes)
    (λ d h. (h, subst (λ e. text_form bytes e ≡ (120 ∷ 34 ∷ []) ++ drop 2 (text_form bytes e)) (sym h.2) refl))
    (reading bytes) cs
    (literal_then (120 ∷ 34 ∷ []) (λ ys. unquoted ys marks.Bytes [] >>= λ y. Ok (some_bytes y.0, y.1)) (IsValue bytes) (λ d. drop 2 (text_form bytes d)) (some_bytes [], ([], tt, refl)) content_of_bytes cs)

-- ---- texts

abbrev pending : Mark → List ℕ
pending marks.Slash = 92 ∷ []
pending marks.Escape = 92 ∷ 120 ∷ []
pending (marks.Half f) = 92 ∷ 120 ∷ f ∷ []
pending _ = []

abbrev TextFits : Mark → List ℕ → Type 0
TextFits marks.Text bs = Unit {0}
TextFits marks.Slash bs = Unit {0}
TextFits marks.Escape bs = Unit {0}
TextFits (marks.Half f) bs = (f ≡ 48) ⊎ ((f ≡ 49) ⊎ (f ≡ 55))
TextFits _ bs = ⊥

abbrev text_written : Mark → List ℕ → List ℕ
text_written m bs = flat_map escape bs ++ pending m

abbrev text_whole : List ℕ → List ℕ
text_whole bs = flat_map escape bs ++ 34 ∷ []

abbrev TextStep : Mark → List ℕ → ℕ → Type 0
TextStep = Step TextFits text_written text_whole

flat_append : (xs ys : List ℕ) → flat_map escape (xs ++ ys) ≡ flat_map escape xs ++ flat_map escape ys
flat_append [] ys = refl
flat_append (x ∷ xs) ys = ap (λ zs. escape x ++ zs) (flat_append xs ys) ∙ sym (append_assoc (escape x) (flat_map escape xs) (flat_map escape ys))

grown : (xs old new : List ℕ) (c : ℕ) → new ≡ old ++ c ∷ [] → xs ++ new ≡ (xs ++ old) ++ c ∷ []
grown xs old new c e = ap (λ zs. xs ++ zs) e ∙ sym (append_assoc xs old (c ∷ []))

put_grown : (bs : List ℕ) (b : ℕ) (old : List ℕ) (c : ℕ) → escape b ≡ old ++ c ∷ [] → text_written marks.Text (bs ++ b ∷ []) ≡ (flat_map escape bs ++ old) ++ c ∷ []
put_grown bs b old c e = append-nil (flat_map escape (bs ++ b ∷ [])) ∙ flat_append bs (b ∷ []) ∙ ap (λ zs. flat_map escape bs ++ zs) (append-nil (escape b)) ∙ grown (flat_map escape bs) old (escape b) c e

content_step : (bs : List ℕ) (c : ℕ) → TextStep marks.Text bs c
content_step bs c = go (eqb c 34) refl (eqb c 92) refl (nat_lt c 32) refl (eqb c 127) refl
  where
    go : (a : Bool) → eqb c 34 ≡ a → (b : Bool) → eqb c 92 ≡ b → (l : Bool) → nat_lt c 32 ≡ l → (d : Bool) → eqb c 127 ≡ d → TextStep marks.Text bs c
    go true p b q l r d s = closes (rw p refl) (grown (flat_map escape bs) [] (34 ∷ []) c (ap (λ z. z ∷ []) (sym (eqb-true _ _ p))))
    go false p true q l r d s = goes marks.Slash (rw (p, q) refl) tt (grown (flat_map escape bs) [] (92 ∷ []) c (ap (λ z. z ∷ []) (sym (eqb-true _ _ q))))
    go false p false q true r d s = halts (rw (p, q, r) refl)
    go false p false q false r true s = halts (rw (p, q, r, s) refl)
    go false p false q false r false s = puts marks.Text c (rw (p, q, r, s) refl) tt (put_grown bs c [] c (plain_escape c p q r s))

slash_step : (bs : List ℕ) (c : ℕ) → TextStep marks.Slash bs c
slash_step bs c = go (eqb c 34) refl (eqb c 92) refl (eqb c 110) refl (eqb c 120) refl
  where
    go : (a : Bool) → eqb c 34 ≡ a → (b : Bool) → eqb c 92 ≡ b → (l : Bool) → eqb c 110 ≡ l → (d : Bool) → eqb c 120 ≡ d → TextStep marks.Slash bs c
    go true p b q l r d s = puts marks.Text 34 (rw p refl) tt (put_grown bs 34 (92 ∷ []) c (ap (λ z. 92 ∷ z ∷ []) (sym (eqb-true _ _ p))))
    go false p true q l r d s = puts marks.Text 92 (rw (p, q) refl) tt (put_grown bs 92 (92 ∷ []) c (ap (λ z. 92 ∷ z ∷ []) (sym (eqb-true _ _ q))))
    go false p false q true r d s = puts marks.Text 10 (rw (p, q, r) refl) tt (put_grown bs 10 (92 ∷ []) c (ap (λ z. 92 ∷ z ∷ []) (sym (eqb-true _ _ r))))
    go false p false q false r true s = goes marks.Escape (rw (p, q, r, s) refl) tt (grown (flat_map escape bs) (92 ∷ []) (92 ∷ 120 ∷ []) c (ap (λ z. 92 ∷ z ∷ []) (sym (eqb-true _ _ s))))
    go false p false q false r false s = halts (rw (p, q, r, s) refl)

escape_step : (bs : List ℕ) (c : ℕ) → TextStep marks.Escape bs c
escape_step bs c = go (eqb c 48) refl (eqb c 49) refl (eqb c 55) refl
  where
    go : (a : Bool) → eqb c 48 ≡ a → (b : Bool) → eqb c 49 ≡ b → (d : Bool) → eqb c 55 ≡ d → TextStep marks.Escape bs c
    go true p b q d r = goes (marks.Half c) (rw p refl) (inl (eqb-true _ _ p)) (grown (flat_map escape bs) (92 ∷ 120 ∷ []) (92 ∷ 120 ∷ c ∷ []) c refl)
    go false p true q d r = goes (marks.Half c) (rw (p, q) refl) (inr (inl (eqb-true _ _ q))) (grown (flat_map escape bs) (92 ∷ 120 ∷ []) (92 ∷ 120 ∷ c ∷ []) c refl)
    go false p false q true r = goes (marks.Half c) (rw (p, q, r) refl) (inr (inr (eqb-true _ _ r))) (grown (flat_map escape bs) (92 ∷ 120 ∷ []) (92 ∷ 120 ∷ c ∷ []) c refl)
    go false p false q false r = halts (rw (p, q, r) refl)

half_step : (f : ℕ) (bs : List ℕ) (c : ℕ) → TextStep (marks.Half f) bs c
half_step f bs c = go (pair_value (digit_value f) (digit_value c)) refl
  where
    escaped : (b : ℕ) → pair_value (digit_value f) (digit_value c) ≡ Some b → (t : Bool) → is_escaped b ≡ t → TextStep (marks.Half f) bs c
    escaped b q true e =
        let w = pair_written f c b q in
        puts marks.Text b (rw (q, e) refl) tt
        (put_grown bs b (92 ∷ 120 ∷ f ∷ []) c (escaped_is b e ∙ ap (λ z. 92 ∷ 120 ∷ z ∷ slice_index lower_digits (b % 16) ∷ []) (sym w.1) ∙ ap (λ z. 92 ∷ 120 ∷ f ∷ z ∷ []) (sym w.2)))
    escaped b q false e = halts (rw (q, e) refl)

    go : (o : Option ℕ) → pair_value (digit_value f) (digit_value c) ≡ o → TextStep (marks.Half f) bs c
    go None q = halts (rw q refl)
    go (Some b) q = escaped b q (is_escaped b) refl

text_step : (m : Mark) (bs : List ℕ) (c : ℕ) → TextFits m bs → TextStep m bs c
text_step marks.Text bs c h = content_step bs c
text_step marks.Slash bs c h = slash_step bs c
text_step marks.Escape bs c h = escape_step bs c
text_step (marks.Half f) bs c h = half_step f bs c
text_step marks.Bytes bs c h = absurd h
text_step (marks.Pair f) bs c h = absurd h

-- ---- from each mark there is a way to the closing quote

completed : (xs old tail more : List ℕ) → flat_map escape tail ++ 34 ∷ [] ≡ old ++ more → (flat_map escape xs ++ old) ++ more ≡ text_whole (xs ++ tail)
completed xs old tail more e =
    append_assoc (flat_map escape xs) old more ∙ ap (λ zs. flat_map escape xs ++ zs) (sym e) ∙ sym (append_assoc (flat_map escape xs) (flat_map escape tail) (34 ∷ [])) ∙ ap (λ zs. zs ++ 34 ∷ []) (sym (flat_append xs tail))

abbrev Completed : Mark → List ℕ → Type 0
Completed n xs = (tail : List ℕ) × (more : List ℕ) × IsUtf8 tail × (text_written n xs ++ more ≡ text_whole (xs ++ tail))

text_completed : (n : Mark) (xs : List ℕ) → TextFits n xs → Completed n xs
text_completed marks.Text xs h = ([], 34 ∷ [], IsUtf8-nil, completed xs [] [] (34 ∷ []) refl)
text_completed marks.Slash xs h = (10 ∷ [], 110 ∷ 34 ∷ [], low_valid 10 (omega arith), completed xs (92 ∷ []) (10 ∷ []) (110 ∷ 34 ∷ []) refl)
text_completed marks.Escape xs h = (0 ∷ [], 48 ∷ 48 ∷ 34 ∷ [], low_valid 0 (omega arith), completed xs (92 ∷ 120 ∷ []) (0 ∷ []) (48 ∷ 48 ∷ 34 ∷ []) refl)
text_completed (marks.Half f) xs (inl e) = subst (λ g. Completed (marks.Half g) xs) (sym e) (0 ∷ [], 48 ∷ 34 ∷ [], low_valid 0 (omega arith), completed xs (92 ∷ 120 ∷ 48 ∷ []) (0 ∷ []) (48 ∷ 34 ∷ []) refl)
text_completed (marks.Half f) xs (inr (inl e)) = subst (λ g. Completed (marks.Half g) xs) (sym e) (16 ∷ [], 48 ∷ 34 ∷ [], low_valid 16 (omega arith), completed xs (92 ∷ 120 ∷ 49 ∷ []) (16 ∷ []) (48 ∷ 34 ∷ []) refl)
text_completed (marks.Half f) xs (inr (inr e)) = subst (λ g. Completed (marks.Half g) xs) (sym e) (127 ∷ [], 102 ∷ 34 ∷ [], low_valid 127 (omega arith), completed xs (92 ∷ 120 ∷ 55 ∷ []) (127 ∷ []) (102 ∷ 34 ∷ []) refl)
text_completed marks.Bytes xs h = absurd h
text_completed (marks.Pair f) xs h = absurd h

-- ---- the content of a text is in UTF-8, since the input is

halts_low : (c : ℕ) → move marks.Text c ≡ moves.Halt → c < 128
halts_low c h = go (eqb c 34) refl (eqb c 92) refl (nat_lt c 32) refl (eqb c 127) refl
  where
    not_close : moves.Close ≡ moves.Halt → ⊥
    not_close e = absurd cc

    not_go : (m : Mark) → moves.Go m ≡ moves.Halt → ⊥
    not_go m e = absurd cc

    not_put : (m : Mark) (b : ℕ) → moves.Put m b ≡ moves.Halt → ⊥
    not_put m b e = absurd cc

    go : (a : Bool) → eqb c 34 ≡ a → (b : Bool) → eqb c 92 ≡ b → (l : Bool) → nat_lt c 32 ≡ l → (d : Bool) → eqb c 127 ≡ d → c < 128
    go true p b q l r d s = absurd (not_close (rw p at h))
    go false p true q l r d s = absurd (not_go marks.Slash (rw (p, q) at h))
    go false p false q true r d s = let lt : c < 32 = ltb-true _ _ r in omega arith
    go false p false q false r true s = let e : c ≡ 127 = eqb-true _ _ s in omega arith
    go false p false q false r false s = absurd (not_put marks.Text c (rw (p, q, r, s) at h))

stuck_low : (n : Mark) (back : List ℕ) → TextFits n [] → ((c : ℕ) (r : List ℕ) → back ≡ c ∷ r → move n c ≡ moves.Halt) → AsciiFirst (pending n ++ back)
stuck_low marks.Text back f h c r e = halts_low c (h c r e)
stuck_low marks.Slash back f h c r e = subst (λ z. z < 128) (heads e) (omega arith)
stuck_low marks.Escape back f h c r e = subst (λ z. z < 128) (heads e) (omega arith)
stuck_low (marks.Half g) back f h c r e = subst (λ z. z < 128) (heads e) (omega arith)
stuck_low marks.Bytes back f h c r e = absurd f
stuck_low (marks.Pair g) back f h c r e = absurd f

fits_any : (n : Mark) (xs : List ℕ) → TextFits n xs → TextFits n []
fits_any marks.Text xs f = f
fits_any marks.Slash xs f = f
fits_any marks.Escape xs f = f
fits_any (marks.Half g) xs f = f
fits_any marks.Bytes xs f = f
fits_any (marks.Pair g) xs f = f

quote_low : (back : List ℕ) → AsciiFirst (34 ∷ back)
quote_low back c r e = subst (λ z. z < 128) (heads e) (omega arith)

-- the content that was read, where the input goes on with `rest`
content_valid : (cs xs rest : List ℕ) → cs ≡ flat_map escape xs ++ rest → AsciiFirst rest → IsUtf8 cs → IsUtf8 xs
content_valid cs xs rest e first u = unescaped [] xs (front_valid (flat_map escape xs) rest first (subst IsUtf8 e u))

module _ (c : ℕ) (cs : List ℕ) (q : eqb 34 c ≡ true) where
  inner : (before : List ℕ) → IsUtf8 (before ++ c ∷ cs) → IsUtf8 cs
  inner before u = let e : 34 ≡ c = eqb-true _ _ q in after_ascii before c cs (subst (λ z. z < 128) e (omega arith)) u

  text_read : (o : Option (List ℕ)) (front back : List ℕ) → RunAt TextFits text_written text_whole cs marks.Text [] o front back → Stops (IsValue text) (text_form text) (reading text) (c ∷ cs)
  text_read None front back r = (
    None,
    c ∷ front,
    back,
    record {
      parts = ap (λ zs. c ∷ zs) r.parts;
      is = rw (q, r.is) refl;
      local = λ d t s e. rw (q, r.local d t s e) refl;
      good = λ before u.
          let n = r.left.0 in
          let xs = r.left.1 in
          let k = text_completed n xs r.left.2 in
          let e : 34 ≡ c = eqb-true _ _ q in
          let split : cs ≡ flat_map escape xs ++ (pending n ++ back) = r.parts ∙ ap (λ zs. zs ++ back) r.left.3 ∙ append_assoc (flat_map escape xs) (pending n) back in
          let v : IsUtf8 xs = content_valid cs xs (pending n ++ back) split (stuck_low n back (fits_any n xs r.left.2) r.left.4) (inner before u) in
          (a_text (xs ++ k.0), k.1, (xs ++ k.0, IsUtf8-append xs k.0 v k.2, refl), ap (λ z. z ∷ (front ++ k.1)) (sym e) ∙ ap (λ zs. 34 ∷ zs) (ap (λ zs. zs ++ k.1) r.left.3 ∙ k.3));
    },
  )
  text_read (Some xs) front back r = whole (is_utf8 xs) refl
    where
      whole : (t : Bool) → is_utf8 xs ≡ t → Stops (IsValue text) (text_form text) (reading text) (c ∷ cs)
      whole true v = (
        Some (a_text xs),
        c ∷ front,
        back,
        record {
          parts = ap (λ zs. c ∷ zs) r.parts;
          is = rw (q, r.is, v) refl;
          local = λ d t s e. rw (q, r.local d t s e, v) refl;
          good = λ before u.
              let e : 34 ≡ c = eqb-true _ _ q in
              ((xs, IsUtf8-from_is_utf8 xs v, refl), ap (λ z. z ∷ front) (sym e) ∙ ap (λ zs. 34 ∷ zs) r.left.2);
        },
      )
      whole false v = (
        None,
        c ∷ front,
        back,
        record {
          parts = ap (λ zs. c ∷ zs) r.parts;
          is = rw (q, r.is, v) refl;
          local = λ d t s e. rw (q, r.local d t s e, v) refl;
          good = λ before u.
              let split : cs ≡ flat_map escape xs ++ (34 ∷ back) = r.parts ∙ ap (λ zs. zs ++ back) r.left.2 ∙ append_assoc (flat_map escape xs) (34 ∷ []) back in
              absurd (true≢false (sym (is_utf8-from_IsUtf8 xs (content_valid cs xs (34 ∷ back) split (quote_low back) (inner before u))) ∙ v));
        },
      )

pub text_stops : (cs : List ℕ) → Stops (IsValue text) (text_form text) (reading text) cs
text_stops [] = (None, [], [], record { parts = refl; is = refl; local = λ c r s e. absurd (no_cons e); good = λ before u. (a_text [], 34 ∷ 34 ∷ [], ([], IsUtf8-nil, refl), refl) })
text_stops (c ∷ cs) = go (eqb 34 c) refl
  where
    go : (t : Bool) → eqb 34 c ≡ t → Stops (IsValue text) (text_form text) (reading text) (c ∷ cs)
    go true q = let p = run TextFits text_written text_whole text_step cs marks.Text [] tt in text_read c cs q p.0 p.1 p.2 p.3
    go false q = (
      None,
      [],
      c ∷ cs,
      record {
        parts = refl;
        is = rw q refl;
        local = λ d r s e. subst (λ z. reading text (z ∷ s) ≡ Err (length (z ∷ s))) (heads e) (rw q refl);
        good = λ before u. (a_text [], 34 ∷ 34 ∷ [], ([], IsUtf8-nil, refl), refl);
      },
    )

-- The same words never ask for two commands.
use Rattle.std.proofs.Common.{◌≡◌, ℕ, Bool, true, false, cond, List, [], ◌∷◌, get_or, Option, Some, None, refl, sym, ap, subst, ◌∙◌, codes, arith}
use Rattle.caf_command.specs.Number.{IsNumberIn}
use Rattle.caf_command.specs.Parts.{AreParts, values_of, traces_of, files_of}
use Rattle.caf_command.specs.Command.{AsksFor, AsksRun, IsRun, IsNumberOr, listed}
use Rattle.caf_command.specs.declared.options.Valued.TheVariants.{Scenario, Workers, Budget}
use Rattle.caf_command.specs.Part.{Part}
use Rattle.caf_command.specs.declared.run_words.RunWords.{RunWords}
use Rattle.caf_command.specs.declared.command.Command.{Command}
use Rattle.caf_command.specs.declared.command.Command.TheVariants.{Run, Check, Plain, Make}
use Rattle.caf_command.proofs.PartsLemmas.{parts_are_read}

listed-same : (a b : Option (List ℕ)) → listed a ≡ listed b → a ≡ b
listed-same None None e = refl
listed-same None (Some y) e = absurd cc
listed-same (Some x) None e = absurd cc
listed-same (Some x) (Some y) e = cc

one_number : (least most : ℕ) (text : List ℕ) (a b : ℕ) → IsNumberIn least most text a → IsNumberIn least most text b → a ≡ b
one_number least most text a b p q = p.value ∙ sym q.value

one_number_or : (most otherwise : ℕ) (values : List (List ℕ)) (a b : ℕ) → IsNumberOr most otherwise values a → IsNumberOr most otherwise values b → a ≡ b
one_number_or most otherwise [] a b p q = p ∙ sym q
one_number_or most otherwise (text ∷ []) a b p q = one_number 1 most text a b p q
one_number_or most otherwise (text ∷ again ∷ more) a b p q = absurd p

one_trace : (a b : Bool) (n : ℕ) → n ≡ cond a 1 0 → n ≡ cond b 1 0 → a ≡ b
one_trace true true n p q = refl
one_trace true false n p q = absurd (omega arith)
one_trace false true n p q = absurd (omega arith)
one_trace false false n p q = refl

abbrev run_with : Option (List ℕ) → ℕ → Bool → ℕ → List (List ℕ) → RunWords
run_with scenario workers is_traced budget files = record {
  scenario = scenario;
  workers = workers;
  is_traced = is_traced;
  budget = budget;
  files = files;
}

same_run : (s t : Option (List ℕ)) (w v : ℕ) (x y : Bool) (b c : ℕ) (f g : List (List ℕ)) → s ≡ t → w ≡ v → x ≡ y → b ≡ c → f ≡ g
    → run_with s w x b f ≡ run_with t v y c g
same_run s t w v x y b c f g p q r u h = rw (p, q, r, u, h) refl

one_run : (scenarios workers budgets : List (List ℕ)) (traces : ℕ) (files : List (List ℕ)) (a b : RunWords)
    → IsRun scenarios workers budgets traces files a → IsRun scenarios workers budgets traces files b → a ≡ b
one_run scenarios workers budgets traces files a b p q =
    let scenario = listed-same a.scenario b.scenario (sym p.scenario ∙ q.scenario) in
    let worker_count = one_number_or 64 4 workers a.workers b.workers p.worker_count q.worker_count in
    let message_count = one_number_or 4294967296 10000000 budgets a.budget b.budget p.message_count q.message_count in
    let trace = one_trace a.is_traced b.is_traced traces p.trace q.trace in
    let file_names = p.file_names ∙ sym q.file_names in
    same_run a.scenario b.scenario a.workers b.workers a.is_traced b.is_traced a.budget b.budget a.files b.files scenario worker_count trace message_count file_names

-- the words behind `run` are parts in one way only
pub one_parts : (words : List (List ℕ)) (ps qs : List Part) → AreParts ps words → AreParts qs words → ps ≡ qs
one_parts words ps qs p q = let a = parts_are_read ps words p in let b = parts_are_read qs words q in cc

pub one_asked_run : (words : List (List ℕ)) (a b : RunWords) → AsksRun words a → AsksRun words b → a ≡ b
one_asked_run words a b p q =
    let same = one_parts words q.0 p.0 q.1 p.1 in
    let again = subst (λ ps. IsRun (values_of Scenario ps) (values_of Workers ps) (values_of Budget ps) (traces_of ps) (files_of ps) b) same q.2 in
    one_run (values_of Scenario p.0) (values_of Workers p.0) (values_of Budget p.0) (traces_of p.0) (files_of p.0) a b p.2 again

-- the byte with which the command's word begins
abbrev first_byte : Command → ℕ
first_byte (Run run) = 114
first_byte (Check file) = 99
first_byte (Plain files) = 112
first_byte (Make lines) = 109

abbrev byte_of : List (List ℕ) → ℕ
byte_of words = get_or (get_or words 0 []) 0 0

begins : (words : List (List ℕ)) (c : Command) → AsksFor words c → byte_of words ≡ first_byte c
begins words (Run run) h = ap byte_of h.1
begins words (Check file) h = ap byte_of h.0
begins words (Plain files) h = ap byte_of h.0
begins words (Make lines) h = ap byte_of h.1

apart : (words : List (List ℕ)) (a b : Command) → AsksFor words a → AsksFor words b → first_byte a ≡ first_byte b
apart words a b p q = sym (begins words a p) ∙ begins words b q

same_behind : {A : Type 0} (x : A) (xs ys : List A) → x ∷ xs ≡ x ∷ ys → xs ≡ ys
same_behind x xs ys e = cc

one_command : (words : List (List ℕ)) (a b : Command) → first_byte a ≡ first_byte b → AsksFor words a → AsksFor words b → a ≡ b
one_command words (Run a) (Run b) e p q =
    let behind : q.0 ≡ p.0 = same_behind (codes "run") q.0 p.0 (sym q.1 ∙ p.1) in
    ap Run (one_asked_run p.0 a b p.2 (subst (λ ws. AsksRun ws b) behind q.2))
one_command words (Check a) (Check b) e p q = let same : codes "check" ∷ a ∷ [] ≡ codes "check" ∷ b ∷ [] = sym p.0 ∙ q.0 in cc
one_command words (Plain a) (Plain b) e p q = let same : codes "plain" ∷ a ≡ codes "plain" ∷ b = sym p.0 ∙ q.0 in cc
one_command words (Make a) (Make b) e p q =
    let same : codes "make" ∷ q.0 ∷ [] ≡ codes "make" ∷ p.0 ∷ [] = sym q.1 ∙ p.1 in
    let text : q.0 ≡ p.0 = cc in
    ap Make (one_number 1 100000 p.0 a b p.2 (subst (λ t. IsNumberIn 1 100000 t b) text q.2))
one_command words (Run a) (Check b) e p q = absurd (omega arith)
one_command words (Run a) (Plain b) e p q = absurd (omega arith)
one_command words (Run a) (Make b) e p q = absurd (omega arith)
one_command words (Check a) (Run b) e p q = absurd (omega arith)
one_command words (Check a) (Plain b) e p q = absurd (omega arith)
one_command words (Check a) (Make b) e p q = absurd (omega arith)
one_command words (Plain a) (Run b) e p q = absurd (omega arith)
one_command words (Plain a) (Check b) e p q = absurd (omega arith)
one_command words (Plain a) (Make b) e p q = absurd (omega arith)
one_command words (Make a) (Run b) e p q = absurd (omega arith)
one_command words (Make a) (Check b) e p q = absurd (omega arith)
one_command words (Make a) (Plain b) e p q = absurd (omega arith)

pub one_asked_for : (words : List (List ℕ)) (a b : Command) → AsksFor words a → AsksFor words b → a ≡ b
one_asked_for words a b p q = one_command words a b (apart words a b p q) p q

-- where the words behind `run` ask for no run, the words ask for nothing
pub no_run : (name : List ℕ) (behind : List (List ℕ)) → name ≡ codes "run" → ((run : RunWords) → AsksRun behind run → ⊥) → (c : Command) → AsksFor (name ∷ behind) c → ⊥
no_run name behind is none (Run run) h =
    let same : codes "run" ∷ h.0 ≡ codes "run" ∷ behind = sym h.1 ∙ ap (λ n. n ∷ behind) is in
    none run (subst (λ ws. AsksRun ws run) (same_behind (codes "run") h.0 behind same) h.2)
no_run name behind is none (Check file) h = let byte = begins _ (Check file) h in let run = ap (λ n. get_or n 0 0) is in absurd (omega arith)
no_run name behind is none (Plain files) h = let byte = begins _ (Plain files) h in let run = ap (λ n. get_or n 0 0) is in absurd (omega arith)
no_run name behind is none (Make lines) h = let byte = begins _ (Make lines) h in let run = ap (λ n. get_or n 0 0) is in absurd (omega arith)

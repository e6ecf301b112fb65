-- The records of the lines gathered, one line after another.
use Prim.Native.Nat.{ℕ, suc, ◌+◌, ◌*◌, ◌≤◌, ◌<◌, zero-le}
use native.Mathlib.Omega.{arith}
use native.Mathlib.Nat.{zero-add}
use mathlib.Core.Path.{◌≡◌, refl, sym, ap, ◌∙◌}
use mathlib.Core.Logic.{◌≢◌}
use Rattle.std.specs.Option.{ok_or}
use Rattle.std.specs.Result.{IsErrAnd, IfErr}
use Rattle.std.proofs.Common.{Option, Some, None, Result, Ok, Err, subst}
use Rattle.std.proofs.lemmas.List.{nil_from_length}
use mathlib.Core.List.{List, [], ◌∷◌, ◌++◌, map, append_assoc, append-nil}
use borrow.Author.Tests.{lt-leb, ne_eqb}
use lib.ListN.{length, length-append, length-map}
use lib.Seq.{sets}
use Rattle.pair.specs.Tests.{first_of}
use Rattle.pair.proofs.Lists.{sets_behind}
use Rattle.batch.specs.Batch.{records_most}
use Rattle.sort.specs.Sort.{laid}
use Rattle.sort.proofs.Records.{Wide, wide_one, laid_length, laid_one, laid_append}
use Rattle.refusal.specs.declared.Refusal.{Refusal}
use Rattle.refusal.specs.declared.Refusal.TheVariants.{OtherForm, TooManyLines}
use Rattle.refusal.specs.Refusal.{number}
use Rattle.lines.specs.declared.Fault.{Fault}
use Rattle.lines.specs.declared.line.Record.{Record}
use Rattle.lines.specs.Lines.{lines, line_record, line_number, fault_from, fault, numbered, line_records}
use Rattle.lines.specs.code.Gathering.{kind_number, words_of, HasFault, Gathers}
use Rattle.lines.proofs.Numbered.{numbered_next, numbered_length}

-- the records of count lines stand in the memory, and the lines of rest are left
pub record Gathering (bytes l now rest : List ℕ) (count : ℕ) : Type 0 where
  pub few : count ≤ records_most
  pub done : List (List ℕ)
  pub wide : Wide 5 done
  pub many : length done ≡ count
  pub same : now ≡ sets l 0 (laid done)
  pub all : line_records bytes ≡ done ++ numbered (count + 1) (map line_record (lines rest))
  pub faults : fault bytes ≡ fault_from count (lines rest)

pub gathering_start : (bytes l : List ℕ) {rest : List ℕ} → rest ≡ bytes → Gathering bytes l l rest 0
unfolding line_records fault laid
gathering_start bytes l e =
    record { few = zero-le; done = []; wide = tt; many = refl; same = refl; all = ap (λ bs. numbered 1 (map line_record (lines bs))) (sym e); faults = ap (λ bs. fault_from 0 (lines bs)) (sym e) }

pub number_other : (i : ℕ) (line : List ℕ) → line_record line ≡ [] → line_number i line ≡ 12
unfolding line_number first_of
number_other i line e = rw e

number_many : (line : List ℕ) → 0 < length (line_record line) → line_number records_most line ≡ 13
unfolding line_number first_of
number_many line h = rw (ne_eqb (length (line_record line)) 0 (λ z. omega (arith, z, h)))

number_none : (i : ℕ) (line : List ℕ) → 0 < length (line_record line) → i < records_most → line_number i line ≡ 0
unfolding line_number first_of
number_none i line h l = rw (ne_eqb (length (line_record line)) 0 (λ z. omega (arith, z, h)), lt-leb records_most i l)

-- the fault of lines by the number of the first
pub fault_here : (i : ℕ) (line : List ℕ) (ls : List (List ℕ)) {n : ℕ} → line_number i line ≡ suc n → fault_from i (line ∷ ls) ≡ record { number = suc n; line = suc i }
unfolding fault_from
fault_here i line ls {n} e = rw (e, ne_eqb (suc n) 0 (λ z. omega arith))

pub fault_later : (i : ℕ) (line : List ℕ) (ls : List (List ℕ)) → line_number i line ≡ 0 → fault_from i (line ∷ ls) ≡ fault_from (suc i) ls
unfolding fault_from
fault_later i line ls e = rw e

module _ {bytes l now rest line : List ℕ} (after : List ℕ) {count : ℕ} (g : Gathering bytes l now rest count) (split : lines rest ≡ line ∷ lines after) where
  faults_line : fault bytes ≡ fault_from count (line ∷ lines after)
  faults_line = g.faults ∙ ap (fault_from count) split

  -- a refusal tells its line
  faulty : (r : Refusal) {n : ℕ} (f : Fault) → f ≡ record { refusal = r; line = count + 1 } → number r ≡ suc n → line_number count line ≡ suc n → HasFault bytes f
  faulty r f is e k =
      let h = faults_line ∙ fault_here count line (lines after) k in
      let one : count + 1 ≡ suc count = omega arith in
      rw is (record { of_number = e ∙ sym (ap (λ x. x.number) h); of_line = one ∙ sym (ap (λ x. x.line) h) })

  pub gathering_other : (f : Fault) → f ≡ record { refusal = OtherForm; line = count + 1 } → [] ≡ line_record line → HasFault bytes f
  gathering_other f is e = faulty OtherForm f is refl (number_other count line (sym e))

  some_words : (u : Record) → words_of (Some u) ≡ line_record line → 0 < length (line_record line)
  some_words u e = rw (← e) (omega arith)

  pub gathering_many :
      (f : Fault) → f ≡ record { refusal = TooManyLines; line = count + 1 } → (u : Record) → words_of (Some u) ≡ line_record line → count ≡ records_most → HasFault bytes f
  gathering_many f is u e m = faulty TooManyLines f is refl (rw m (number_many line (some_words u e)))

  pub gathering_turn :
      {next : List ℕ} (u : Record) → words_of (Some u) ≡ line_record line → count ≢ records_most →
      next ≡ sets now (5 * count) (kind_number u.kind ∷ u.term ∷ u.from ∷ u.to ∷ (count + 1) ∷ []) → Gathering bytes l next after (count + 1)
  gathering_turn {next} u is m a =
      let r = kind_number u.kind ∷ u.term ∷ u.from ∷ u.to ∷ (count + 1) ∷ [] in
      let done = g.done in
      let one : suc count ≡ count + 1 = omega arith in
      let two : suc (count + 1) ≡ count + 1 + 1 = omega arith in
      record {
        few = omega (arith, g.few, m);
        done = done ++ r ∷ [];
        wide = wide_one 5 done r g.wide refl;
        many = length-append done (r ∷ []) ∙ omega (arith, g.many);
        same = sets_behind l 0 (laid done) r {w = 5 * count} g.same (laid_length 5 done g.wide ∙ ap (λ q. 5 * q) g.many) (rw zero-add a)
            ∙ ap (sets l 0) (sym (laid_append done (r ∷ []) ∙ ap (λ q. laid done ++ q) (laid_one r)));
        all = g.all ∙ ap (λ ls. done ++ numbered (count + 1) (map line_record ls)) split
            ∙ ap (λ q. done ++ numbered (count + 1) (q ∷ map line_record (lines after))) (sym is)
            ∙ ap (λ q. done ++ q) (numbered_next (count + 1) (words_of (Some u)) (map line_record (lines after)))
            ∙ ap (λ i. done ++ r ∷ numbered i (map line_record (lines after))) two ∙ sym (append_assoc done (r ∷ []) (numbered (count + 1 + 1) (map line_record (lines after))));
        faults = faults_line ∙ fault_later count line (lines after) (number_none count line (some_words u is) (omega (arith, g.few, m))) ∙ ap (λ i. fault_from i (lines after)) one;
      }

pub gathering_end : {bytes l now rest : List ℕ} {count : ℕ} → Gathering bytes l now rest count → length rest ≡ 0 → Gathers bytes l count now
unfolding lines fault_from line_records numbered
gathering_end {bytes} {l} {now} {rest} {count} g h =
    let none : rest ≡ [] = nil_from_length rest h in
    let f : fault bytes ≡ record { number = 0; line = 0 } = g.faults ∙ rw none in
    let all : numbered 1 (map line_record (lines bytes)) ≡ g.done = g.all ∙ rw none (append-nil g.done) in
    record {
      faultless = ap (λ x. x.number) f;
      stand = g.same ∙ ap (λ q. sets l 0 (laid q)) (sym all);
      many = sym g.many ∙ ap length (sym all) ∙ numbered_length 1 (map line_record (lines bytes)) ∙ length-map (lines bytes) line_record;
      few = g.few;
    }

-- the fault that `ok_or` gives where there is no record is handed on
pub record_refused :
    {bytes : List ℕ} {f : Fault} {o : Option Record} (r : Result ℕ Fault) (e : Fault) → IsErrAnd r (λ x. x ≡ e) → Err e ≡ ok_or o f → o ≡ None → HasFault bytes f →
    IfErr r (HasFault bytes)
record_refused (Ok n) e k v w h = absurd k
record_refused {bytes} {f} (Err x) e k v w h =
    let m = v ∙ ap (λ o. ok_or o f) w in
    let s : f ≡ x = cc in
    subst (HasFault bytes) s h

-- The pass over all records: what those read so far hold.
use Prim.Native.Nat.{ℕ, zero, suc, ◌+◌, ◌-◌, ◌≤◌, ◌<◌}
use mathlib.Core.Path.{◌≡◌, refl, sym, ◌∙◌, ap, subst}
use mathlib.Core.Bool.{Bool, true, false}
use mathlib.Core.List.{List, [], ◌∷◌, ◌++◌, append_assoc, append-nil}
use mathlib.Core.Logic.{⊎_elim}
use mathlib.Core.Option.{Option, some, none}
use native.Mathlib.Nat.{le_refl, lt_of_le_of_lt, zero-add, lt_irrefl, le_antisymm}
use native.Mathlib.Omega.{arith}
use borrow.Author.Tests.{eqb-true}
use lib.ListN.{set, length, length-append}
use Rattle.basis.specs.Words.{padded}
use Rattle.rules.specs.Refusals.{Refused, refused_as, malformed, refusal}
use Rattle.file_rules.specs.MeterFile.{column, most_bytes, two, length_at, kind_at, next_at, meter_kinds, form, is_record, malformed_at, Record, Reading, and_then, read_from, reading, of_kind, table_from, tasks_from, is_event, events_of, beginning, table_of, tasks_of, events_in}
use Rattle.rules.specs.declared.Refusal.{Refusal}
use Rattle.rules.specs.declared.Table.{Table}
use Rattle.rules.specs.declared.Tasks.{Tasks}
use Rattle.laws.proofs.Tests.{below_or_not, none_is_some}
use Rattle.laws.proofs.Refusals.{file_alone}
use Rattle.file_laws.proofs.MeterFile.{over_limit_lem, no_record, a_record, payload_is, Whole, record_whole, Kind, partition, task, word, release, known_kind}
use Rattle.file_laws.proofs.Records.{read_on, read_stops, read_ends, reading_small, reading_large, of_kind-this, of_kind_other, of_kind_few, column-next, field_at, event_kind, no_events-more, events_begin}
use Rattle.std.specs.declared.result.Result.{Result}
use Rattle.std.specs.declared.result.Result.TheVariants.{Ok, Err}
use Rattle.meter.specs.Promises.{ReadRecordIs, PayloadIs}
use Rattle.meter.proofs.Records.{Told, told_refused}
use Rattle.meter.specs.declared.Record.{Record as Answer}
use Rattle.whole_file.specs.Inner.{empty, with_partition, with_task, with_record, LoadIs}
use Rattle.whole_file.specs.Promises.{judging}
use Rattle.whole_file.specs.declared.MeterFile.{MeterFile}

-- records that are done, and what is read after them
pub joined : List Record → Reading → Reading
joined done rest = record { records = done ++ rest.records; fault = rest.fault }

joined_one : (done : List Record) (r : Record) (rest : Reading) → joined done (and_then r rest) ≡ joined (done ++ r ∷ []) rest
unfolding joined
joined_one done r rest = ap (λ (rs : List Record). record { records = rs; fault = rest.fault }) (sym (append_assoc done (r ∷ []) rest.records))

joined_end : (done : List Record) → joined done (record { records = []; fault = none }) ≡ record { records = done; fault = none }
unfolding joined
joined_end done = ap (λ (rs : List Record). record { records = rs; fault = none }) (append-nil done)

module _ (file : List ℕ) where
  pub record UpTo (held : MeterFile) (before at : ℕ) : Type 0 where
    pub done : List Record
    pub rounds : ℕ
    pub enough : length file ≤ at + rounds
    pub inside : at ≤ length file
    pub small : 0 < at → length file ≤ most_bytes
    pub read : read_from meter_kinds file (length file) 0 0 ≡ joined done (read_from meter_kinds file rounds before at)
    pub table : held.table ≡ table_from file (of_kind 1 done)
    pub tasks : held.tasks ≡ tasks_from file (of_kind 2 done)
    pub few : length done ≤ at
    pub events : held.events ≡ beginning (events_of done) at
    pub early : (form before).place < 3 → events_of done ≡ []

  begins : UpTo empty 0 0
  unfolding joined of_kind events_of padded
  begins =
      record {
        done = [];
        rounds = length file;
        enough = rw (zero-add (length file)) (le_refl (length file));
        inside = omega arith;
        small = λ z. absurd (lt_irrefl 0 z);
        read = refl;
        table = refl;
        tasks = refl;
        few = le_refl 0;
        events = refl;
        early = λ l. refl;
      }

  pub load_begins : (h : MeterFile) → h ≡ empty → UpTo h 0 0
  load_begins h e = subst (λ (x : MeterFile). UpTo x 0 0) (sym e) begins

  module _ (held : MeterFile) (before at : ℕ) (here : UpTo held before at) (l : at < length file) where
    -- there is a round left
    one_left : (rounds : ℕ) → length file ≤ at + rounds → (r : ℕ) × (rounds ≡ suc r)
    one_left zero e = absurd (lt_irrefl at (omega arith))
    one_left (suc r) e = (r, refl)

    module _ (kind next : ℕ) (told : Told meter_kinds before file at kind next) where
      pub few_partitions_yet : held.table.count < 65536
      few_partitions_yet =
          let short = of_kind_few 1 here.done in
          let few = here.few in
          let small = told.small in
          subst (λ (t : Table). t.count < 65536) (sym here.table) (omega (arith, short, few, small, l))

      pub few_tasks_yet : held.tasks.count < 65536
      few_tasks_yet =
          let short = of_kind_few 2 here.done in
          let few = here.few in
          let small = told.small in
          subst (λ (t : Tasks). t.count < 65536) (sym here.tasks) (omega (arith, short, few, small, l))

      abbrev this : Record
      this = record { kind = kind_at file at; at = at }

      whole : Whole meter_kinds before file at
      whole = record_whole meter_kinds before file at told.record_is

      abbrev more : List Record
      more = here.done ++ this ∷ []

      -- what holds of any kind
      step : (k : ℕ) → k ≡ kind_at file at → (h : MeterFile) → h.table ≡ table_from file (of_kind 1 more) → h.tasks ≡ tasks_from file (of_kind 2 more)
          → h.events ≡ beginning (events_of more) next → ((form k).place < 3 → events_of more ≡ []) → UpTo h k next
      unfolding joined
      step k e h t u v w =
          let left : (r : ℕ) × (here.rounds ≡ suc r) = one_left here.rounds here.enough in
          let far = told.further in
          let reach = here.enough in
          let left_is = left.1 in
          let count = length-append here.done (this ∷ []) in
          let few = here.few in
          record {
            done = more;
            rounds = left.0;
            enough = omega (arith, far, reach, left_is);
            inside = told.within;
            small = λ z. told.small;
            read =
                here.read
                ∙ ap (λ r. joined here.done (read_from meter_kinds file r before at)) left_is
                ∙ ap (joined here.done) (read_on meter_kinds file left.0 before at l told.record_is)
                ∙ joined_one here.done this (read_from meter_kinds file left.0 (kind_at file at) (next_at file at))
                ∙ (λ i. joined more (read_from meter_kinds file left.0 (sym e i) (sym told.next_is i)));
            table = t;
            tasks = u;
            few = omega (arith, far, few, count);
            events = v;
            early = w;
          }

      -- a table's record: no events before it
      none_yet : (form (kind_at file at)).place < 3 → is_event (kind_at file at) ≡ false → events_of more ≡ []
      none_yet small e = no_events-more here.done this (here.early (lt_of_le_of_lt whole.ordered small)) e

      module _ (part : List ℕ) (part-is : PayloadIs meter_kinds before file at part) where
        field : length_at file at ≡ 8 → (i past : ℕ) → past ≡ 4 + i → i + 2 ≤ 6 → two part i ≡ two file (at + past)
        field long i past e f =
            ap (λ (xs : List ℕ). two xs i) (part-is ∙ sym (payload_is meter_kinds before file at told.sound))
            ∙ field_at file at (length_at file at - 2) i past e (omega (arith, f, long))

        -- a record of a table, by its kind: no events before it, and each field in its column
        module _ (k : ℕ) (e : k ≡ kind_at file at) (small : (form k).place < 3) (other : is_event k ≡ false) (eight : (form k).length ≡ 8) where
          nothing : events_of more ≡ []
          nothing = none_yet (subst (λ (x : ℕ). (form x).place < 3) e small) (subst (λ (x : ℕ). is_event x ≡ false) e other)

          in_column : (places : ℕ) (os : List ℕ) (i past : ℕ) → past ≡ 4 + i → i + 2 ≤ 6
              → set (column places file past os) (length os) (two part i) ≡ column places file past (os ++ at ∷ [])
          in_column places os i past is fits =
              column-next places file past os at (two part i) (field (whole.long ∙ ap (λ (x : ℕ). (form x).length) (sym e) ∙ eight) i past is fits)

        kind_1 : 1 ≡ kind_at file at → UpTo (with_record held 1 part next) 1 next
        unfolding form
        kind_1 e =
            step 1 e (with_record held 1 part next)
            (ap (λ (t : Table). with_partition t part) here.table ∙ row (of_kind 1 here.done) ∙ ap (table_from file) (sym (of_kind-this 1 here.done this (sym e))))
            (here.tasks ∙ ap (tasks_from file) (sym (of_kind_other 2 here.done this (λ d. absurd (differ (e ∙ d))))))
            (sym (ap (λ (rs : List Record). beginning rs next) (nothing 1 e (omega arith) refl refl)))
            (λ s. nothing 1 e (omega arith) refl refl)
          where
            differ : ◌≡◌ {A = ℕ} 1 2 → ⊥
            differ d = omega (arith, d)

            row : (os : List ℕ) → with_partition (table_from file os) part ≡ table_from file (os ++ at ∷ [])
            row os i =
                record {
                  count = sym (length-append os (at ∷ [])) i;
                  period = in_column 1 e (omega arith) refl refl 16 os 0 4 refl (omega arith) i;
                  budget = in_column 1 e (omega arith) refl refl 16 os 2 6 refl (omega arith) i;
                  phase = in_column 1 e (omega arith) refl refl 16 os 4 8 refl (omega arith) i;
                }

        kind_2 : 2 ≡ kind_at file at → UpTo (with_record held 2 part next) 2 next
        unfolding form
        kind_2 e =
            step 2 e (with_record held 2 part next)
            (here.table ∙ ap (table_from file) (sym (of_kind_other 1 here.done this (λ d. absurd (differ (e ∙ d))))))
            (ap (λ (k : Tasks). with_task k part) here.tasks ∙ row (of_kind 2 here.done) ∙ ap (tasks_from file) (sym (of_kind-this 2 here.done this (sym e))))
            (sym (ap (λ (rs : List Record). beginning rs next) (nothing 2 e (omega arith) refl refl)))
            (λ s. nothing 2 e (omega arith) refl refl)
          where
            differ : ◌≡◌ {A = ℕ} 2 1 → ⊥
            differ d = omega (arith, d)

            row : (os : List ℕ) → with_task (tasks_from file os) part ≡ tasks_from file (os ++ at ∷ [])
            row os i =
                record {
                  count = sym (length-append os (at ∷ [])) i;
                  partition = in_column 2 e (omega arith) refl refl 64 os 0 4 refl (omega arith) i;
                  gap = in_column 2 e (omega arith) refl refl 64 os 2 6 refl (omega arith) i;
                  cost = in_column 2 e (omega arith) refl refl 64 os 4 8 refl (omega arith) i;
                }

        event : (k : ℕ) → k ≡ kind_at file at → (k ≡ 1 → ⊥) → (k ≡ 2 → ⊥) → UpTo held k next
        event k e a b =
            step k e held
            (here.table ∙ ap (table_from file) (sym (of_kind_other 1 here.done this (λ d. a (e ∙ d)))))
            (here.tasks ∙ ap (tasks_from file) (sym (of_kind_other 2 here.done this (λ d. b (e ∙ d)))))
            (here.events ∙ events_begin here.done this next is)
            (λ s. absurd (lt_irrefl 3 (subst (λ (x : ℕ). x < 3) (ap (λ (y : ℕ). (form y).place) e ∙ eqb-true (form (kind_at file at)).place 3 is) s)))
          where
            is : is_event (kind_at file at) ≡ true
            is = event_kind (kind_at file at) whole.known (λ d. a (e ∙ d)) (λ d. b (e ∙ d))

        pub load_goes_on : (h : MeterFile) → h ≡ with_record held kind part next → (k : ℕ) → k ≡ kind → UpTo h k next
        load_goes_on h same k k_is =
            subst (λ (x : ℕ). UpTo h x next) (sym k_is) (subst (λ (x : MeterFile). UpTo x kind next) (sym same) (go (known_kind kind (subst (λ (k : ℕ). 0 < (form k).place) (sym told.kind_is) whole.known)) told.kind_is))
          where
            go : {k : ℕ} → Kind k → k ≡ kind_at file at → UpTo (with_record held k part next) k next
            go partition e = kind_1 e
            go task e = kind_2 e
            go word e = event 3 e (λ d. omega (arith, d)) (λ d. omega (arith, d))
            go release e = event 4 e (λ d. omega (arith, d)) (λ d. omega (arith, d))

    -- ---- a refused record ends the pass
    module _ (answer : Result Answer Refusal) (read_is : ReadRecordIs meter_kinds before file at answer) where
      stopped : is_record meter_kinds before file at ≡ false → length file ≤ most_bytes → (reading meter_kinds file).fault ≡ some at
      unfolding joined
      stopped e small =
          let left : (r : ℕ) × (here.rounds ≡ suc r) = one_left here.rounds here.enough in
          ap (λ (x : Reading). x.fault)
          (reading_small meter_kinds file small
          ∙ here.read
          ∙ ap (λ r. joined here.done (read_from meter_kinds file r before at)) left.1
          ∙ ap (joined here.done) (read_stops meter_kinds file left.0 before at l e))

      same_fault : (q : Refusal) → refusal (malformed (malformed_at meter_kinds before file at) ∷ []) ≡ some (refused_as q) → (reading meter_kinds file).fault ≡ malformed_at meter_kinds before file at
      same_fault q e = ⊎_elim large small (below_or_not most_bytes (length file))
        where
          large : most_bytes < length file → (reading meter_kinds file).fault ≡ malformed_at meter_kinds before file at
          large m = ap (λ (x : Reading). x.fault) (reading_large meter_kinds file m) ∙ sym (over_limit_lem meter_kinds before file at m)

          small : length file ≤ most_bytes → (reading meter_kinds file).fault ≡ malformed_at meter_kinds before file at
          small m = go (is_record meter_kinds before file at) refl
            where
              go : (a : Bool) → is_record meter_kinds before file at ≡ a → (reading meter_kinds file).fault ≡ malformed_at meter_kinds before file at
              go true d = none_is_some (sym (rw (a_record meter_kinds before file at m d) (file_alone none)) ∙ e)
              go false d = stopped d m ∙ sym (no_record meter_kinds before file at m d)

      pub load_refused : (q : Refusal) → answer ≡ Err q → LoadIs file (Err q)
      unfolding judging
      load_refused q d =
          ap (λ (x : Option Refused). judging x file)
          (sym (ap (λ (m : Option ℕ). refusal (malformed m ∷ [])) (same_fault q why) ∙ why))
        where
          why : refusal (malformed (malformed_at meter_kinds before file at) ∷ []) ≡ some (refused_as q)
          why = told_refused meter_kinds before file at answer read_is q d

  -- ---- and the end of the file ends it too
  module _ (held : MeterFile) (before at : ℕ) (here : UpTo held before at) (l : length file ≤ at) where
    small_file : length file ≤ most_bytes
    small_file = go at refl
      where
        go : (n : ℕ) → at ≡ n → length file ≤ most_bytes
        go zero e = omega (arith, l, e)
        go (suc n) e = here.small (omega (arith, e))

    all_read : reading meter_kinds file ≡ record { records = here.done; fault = none }
    all_read =
        reading_small meter_kinds file small_file
        ∙ here.read
        ∙ ap (joined here.done) (read_ends meter_kinds file here.rounds before at l)
        ∙ joined_end here.done

    pub load_ends : LoadIs file (Ok held)
    unfolding table_of tasks_of events_in judging
    load_ends =
        (λ i. record { table = (here.table ∙ table_read) i; tasks = (here.tasks ∙ tasks_read) i; events = (here.events ∙ events_read) i; refused = none })
        ∙ ap (λ (x : Option Refused). judging x file) (sym (ap (λ (x : Reading). refusal (malformed x.fault ∷ [])) all_read ∙ file_alone none))
      where
        table_read : table_from file (of_kind 1 here.done) ≡ table_of file
        table_read = ap (λ (x : Reading). table_from file (of_kind 1 x.records)) (sym all_read)

        tasks_read : tasks_from file (of_kind 2 here.done) ≡ tasks_of file
        tasks_read = ap (λ (x : Reading). tasks_from file (of_kind 2 x.records)) (sym all_read)

        events_read : beginning (events_of here.done) at ≡ beginning (events_in file) (length file)
        events_read i = beginning (events_of (sym all_read i).records) (le_antisymm here.inside l i)

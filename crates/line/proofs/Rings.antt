-- Laws of the elements that wait in a line.
use Rattle.std.proofs.Common.{◌≡◌, ℕ, ◌+◌, ◌-◌, ◌<◌, ◌≤◌, min, ◌≢◌, List, [], ◌∷◌, ◌++◌, length, get_or, take, drop, set, Some, None, Option, sym, refl, ap, ◌∙◌, ⊎_elim, arith, length-append, length-drop, length-set, length-take}
use Rattle.std.specs.List.{slice_get}
use Rattle.std.proofs.lemmas.List.{get_or-take, get_or-drop, get_or_append_left, get_or-append_right, get_or-set_same, get_or-set_other, length-take-le, length_push, get_or_push, same_lists, nil_from_length, drop_all}
use Rattle.std.proofs.lemmas.Option.{slice_get-get_or, slice_get_past}
use Rattle.std.proofs.lemmas.Bool.{lt-ltb, le-ltb, le-leb, lt-leb, cond-true, cond-false, cases_lt}
use Rattle.line.specs.declared.line.Line.{Line}
use Rattle.line.specs.Rings.{place_of, turned, counted, place_in, waiting, Entered, Advanced}

-- places

pub place_low : (l : Line) (i : ℕ) → i < l.size - l.head → place_of l i ≡ l.head + i
place_low l i low = cond-true _ _ _ (lt-ltb i (l.size - l.head) low)

pub place_high : (l : Line) (i : ℕ) → l.size - l.head ≤ i → place_of l i ≡ i - (l.size - l.head)
place_high l i high = cond-false _ _ _ (le-ltb i (l.size - l.head) high)

pub place_within : (l : Line) (i : ℕ) → i ≤ l.size → place_of l i < l.size
place_within l i le =
    ⊎_elim (λ low. omega (arith, place_low l i low)) (λ high. omega (arith, place_high l i high)) (cases_lt i (l.size - l.head))

-- no two of a line's places are one
pub place_apart : (l : Line) (i j : ℕ) → i < j → j < l.size → place_of l i ≢ place_of l j
place_apart l i j lt within same =
    ⊎_elim (λ low. ⊎_elim (λ low'. omega (arith, place_low l i low, place_low l j low')) (λ high. omega (arith, place_low l i low, place_high l j high)) (cases_lt j (l.size - l.head)))
    (λ high. omega (arith, place_high l i high, place_high l j (omega arith)))
    (cases_lt i (l.size - l.head))

pub place_same : (l l' : Line) (i : ℕ) → l'.head ≡ l.head → l'.size ≡ l.size → place_of l' i ≡ place_of l i
place_same l l' i head size = cc

-- past the n oldest, the i-th place is the one that was n further on
pub place_advanced : (l l' : Line) (n i : ℕ) → Advanced l n l' → n + i < l.size → place_of l' i ≡ place_of l (n + i)
place_advanced l l' n i a within =
    let head : l'.head ≡ place_of l n = a.head in
    let size : l'.size ≡ l.size = a.size in
    ⊎_elim
    (λ low. ⊎_elim (λ low'. omega (arith, place_low l n low, place_low l (n + i) low', place_low l' i (omega (arith, place_low l n low))))
    (λ high. omega (arith, place_low l n low, place_high l (n + i) high, place_high l' i (omega (arith, place_low l n low))))
    (cases_lt (n + i) (l.size - l.head)))
    (λ high. omega (arith, place_high l n high, place_high l (n + i) (omega arith), place_low l' i (omega (arith, place_high l n high))))
    (cases_lt n (l.size - l.head))

-- counts

counted_fits : (l : Line) (places : ℕ) → l.size ≤ places → counted l places ≡ l.len
counted_fits l places fits = cond-true _ _ _ (le-leb l.size places fits)

counted_short : (l : Line) (places : ℕ) → places < l.size → counted l places ≡ 0
counted_short l places short = cond-false _ _ _ (lt-leb l.size places short)

in_low : (l : Line) (places i : ℕ) → i < counted l places → place_in l places i ≡ Some (place_of l i)
in_low l places i low = cond-true _ _ _ (lt-ltb i (counted l places) low)

in_high : (l : Line) (places i : ℕ) → counted l places ≤ i → place_in l places i ≡ None
in_high l places i high = cond-false _ _ _ (le-ltb i (counted l places) high)

none_some : (at : ℕ) → ◌≡◌ {A = Option ℕ} None (Some at) → ⊥
none_some at e = let z : ◌≡◌ {A = ℕ} 0 1 = cc in omega arith

module _ {X : Type 0} where
  length_turned : (h : ℕ) (xs : List X) → h ≤ length xs → length (turned h xs) ≡ length xs
  unfolding turned
  length_turned h xs le = length-append (drop h xs) (take h xs) ∙ omega (arith, length-drop h xs, length-take h xs)

  get_d_turned_low : (h i : ℕ) (xs : List X) (d : X) → h + i < length xs → get_or (turned h xs) i d ≡ get_or xs (h + i) d
  unfolding turned
  get_d_turned_low h i xs d lt =
      get_or_append_left (drop h xs) (take h xs) d i (simp length-drop (omega arith)) ∙ get_or-drop h xs i d

  get_d_turned_high : (h i : ℕ) (xs : List X) (d : X) → h ≤ length xs → length xs - h ≤ i → i < length xs → get_or (turned h xs) i d ≡ get_or xs (i - (length xs - h)) d
  unfolding turned
  get_d_turned_high h i xs d le far lt =
      get_or-append_right (drop h xs) (take h xs) (length xs - h) i d (length-drop h xs) far ∙ get_or-take h xs (i - (length xs - h)) d (omega arith)

  pub length_waiting : (l : Line) (room : List X) → length (waiting l room) ≡ counted l (length room)
  unfolding waiting
  length_waiting l room =
      let ring = turned l.head (take l.size room) in
      ⊎_elim (λ short. omega (arith, length-take (counted l (length room)) ring, counted_short l (length room) short))
      (λ fits. omega (
        arith,
        length-take (counted l (length room)) ring,
        counted_fits l (length room) fits,
        length_turned l.head (take l.size room) (omega (arith, length-take-le l.size room fits)),
        length-take-le l.size room fits,
      ))
      (cases_lt (length room) l.size)

  -- as many wait as the line counts
  pub length_waiting_fits : (l : Line) (room : List X) → l.size ≤ length room → length (waiting l room) ≡ l.len
  length_waiting_fits l room fits = length_waiting l room ∙ counted_fits l (length room) fits

  -- nothing waits in a slice that is shorter than the line's size
  pub waiting_short : (l : Line) (room : List X) → length room < l.size → waiting l room ≡ []
  waiting_short l room short = nil_from_length (waiting l room) (length_waiting l room ∙ counted_short l (length room) short)

  pub length_waiting_le : (l : Line) (room : List X) → length (waiting l room) ≤ l.len
  length_waiting_le l room =
      ⊎_elim (λ short. omega (arith, length_waiting l room, counted_short l (length room) short)) (λ fits. omega (arith, length_waiting_fits l room fits)) (cases_lt (length room) l.size)

  pub waiting_none : (l : Line) (room : List X) → l.len ≡ 0 → waiting l room ≡ []
  waiting_none l room none =
      ⊎_elim (waiting_short l room) (λ fits. nil_from_length (waiting l room) (length_waiting_fits l room fits ∙ none)) (cases_lt (length room) l.size)

  -- the i-th that waits stands at the i-th place
  pub get_d_waiting : (l : Line) (room : List X) (i : ℕ) (d : X) → l.size ≤ length room → i < l.len → get_or (waiting l room) i d ≡ get_or room (place_of l i) d
  unfolding waiting
  get_d_waiting l room i d fits lt =
      let n = length-take-le l.size room fits in
      let xs = take l.size room in
      let front : get_or (waiting l room) i d ≡ get_or (turned l.head xs) i d =
      get_or-take (counted l (length room)) (turned l.head xs) i d (omega (arith, counted_fits l (length room) fits)) in
      let place : get_or (turned l.head xs) i d ≡ get_or xs (place_of l i) d =
      ⊎_elim (λ low. get_d_turned_low l.head i xs d (omega arith) ∙ ap (λ k. get_or xs k d) (sym (place_low l i low)))
      (λ high. get_d_turned_high l.head i xs d (omega arith) (omega arith) (omega arith) ∙ ap (λ k. get_or xs k d) (omega (arith, place_high l i high)))
      (cases_lt i (l.size - l.head)) in
      front ∙ place ∙ get_or-take l.size room (place_of l i) d (place_within l i (omega arith))

  -- what `get` answers, by the element at a place
  pub nth_waiting : (l : Line) (room : List X) (i : ℕ) (d : X) → l.size ≤ length room → i < l.len → slice_get (waiting l room) i ≡ Some (get_or (waiting l room) i d)
  nth_waiting l room i d fits lt = slice_get-get_or (waiting l room) i d (omega (arith, length_waiting_fits l room fits))

  nth_place : (l : Line) (room : List X) (i : ℕ) (x : X) → i < counted l (length room) → x ≡ get_or room (place_of l i) x → slice_get (waiting l room) i ≡ Some x
  nth_place l room i x lt is =
      ⊎_elim (λ short. absurd (omega (arith, counted_short l (length room) short)))
      (λ fits. let within : i < l.len = omega (arith, counted_fits l (length room) fits) in
      nth_waiting l room i x fits within ∙ ap Some (get_d_waiting l room i x fits within ∙ sym is))
      (cases_lt (length room) l.size)

  pub nth_found : (l : Line) (room : List X) (i at : ℕ) (x : X) → Some at ≡ place_in l (length room) i → x ≡ get_or room at x → slice_get (waiting l room) i ≡ Some x
  nth_found l room i at x found is =
      ⊎_elim (λ low. let there : at ≡ place_of l i = cc (found, in_low l (length room) i low) in nth_place l room i x low (is ∙ ap (λ k. get_or room k x) there))
      (λ high. absurd (none_some at (sym (found ∙ in_high l (length room) i high))))
      (cases_lt i (counted l (length room)))

  pub nth_missing : (l : Line) (room : List X) (i : ℕ) → None ≡ place_in l (length room) i → slice_get (waiting l room) i ≡ None
  nth_missing l room i missing =
      ⊎_elim (λ low. absurd (none_some (place_of l i) (missing ∙ in_low l (length room) i low)))
      (λ high. slice_get_past (waiting l room) i (omega (arith, length_waiting l room)))
      (cases_lt i (counted l (length room)))

  -- two lines of one length whose places hold the same
  pub waiting_same : (l l' : Line) (room room' : List X) → l.size ≤ length room → l'.size ≤ length room' → l'.len ≡ l.len → ((i : ℕ) (d : X) → i < l.len → get_or room' (place_of l' i) d ≡ get_or room (place_of l i) d) → waiting l' room' ≡ waiting l room
  waiting_same l l' room room' fits fits' lens same =
      same_lists (waiting l' room') (waiting l room)
      (length_waiting_fits l' room' fits' ∙ lens ∙ sym (length_waiting_fits l room fits))
      (λ k d lt. let within : k < l.len = omega (arith, length_waiting_fits l' room' fits') in
      get_d_waiting l' room' k d fits' (omega arith) ∙ same k d within ∙ sym (get_d_waiting l room k d fits within))

  -- what waits from the head on, and then what waits from the slice's start on
  pub waiting_parts : (l : Line) (room : List X) (k : ℕ) → l.size ≤ length room → k ≡ min l.len (l.size - l.head) → take (l.head + k - l.head) (drop l.head room) ++ take (l.len - k) room ≡ waiting l room
  waiting_parts l room k fits least =
      let few = l.few in
      let inside = l.inside in
      let h = l.head in
      let near = take (h + k - h) (drop h room) in
      let far = take (l.len - k) room in
      let n : length near ≡ k = omega (arith, length-take (h + k - h) (drop h room), length-drop h room) in
      same_lists (near ++ far) (waiting l room)
      (length-append near far ∙ omega (arith, length-take (l.len - k) room, length_waiting_fits l room fits))
      (λ i d lt.
      let some : i < l.len = omega (arith, length-append near far, length-take (l.len - k) room) in
      ⊎_elim (λ (low : i < k). get_or_append_left near far d i (omega arith) ∙ get_or-take (h + k - h) (drop h room) i d (omega arith) ∙ get_or-drop h room i d ∙ ap (λ p. get_or room p d) (sym (place_low l i (omega arith))))
      (λ (high : k ≤ i). get_or-append_right near far k i d n high ∙ get_or-take (l.len - k) room (i - k) d (omega arith) ∙ ap (λ p. get_or room p d) (omega (arith, place_high l i (omega arith))))
      (cases_lt i k)
      ∙ sym (get_d_waiting l room i d fits some))

  -- a write where none waits
  pub waiting_set : (l : Line) (room : List X) (at : ℕ) (x : X) → ((i : ℕ) → i < l.len → place_of l i ≢ at) → waiting l (set room at x) ≡ waiting l room
  waiting_set l room at x apart =
      let n = length-set room at x in
      ⊎_elim (λ short. waiting_short l (set room at x) (omega arith) ∙ sym (waiting_short l room short))
      (λ fits. waiting_same l l room (set room at x) fits (omega arith) refl (λ i d lt. get_or-set_other room at (place_of l i) x d (apart i lt)))
      (cases_lt (length room) l.size)

  -- the n oldest have left
  pub waiting_advanced : (l l' : Line) (room : List X) (n : ℕ) → Advanced l n l' → n ≤ l.len → waiting l' room ≡ drop n (waiting l room)
  waiting_advanced l l' room n a le =
      let size : l'.size ≡ l.size = a.size in
      let len : l'.len ≡ l.len - n = a.len in
      let old = waiting l room in
      ⊎_elim (λ short. waiting_short l' room (omega arith) ∙ sym (nil_from_length (drop n old) (omega (arith, length-drop n old, length_waiting l room, counted_short l (length room) short))))
      (λ fits.
      let m = length_waiting_fits l room fits in
      let m' = length_waiting_fits l' room (omega arith) in
      same_lists (waiting l' room) (drop n old) (omega (arith, length-drop n old))
      (λ k d lt.
      get_d_waiting l' room k d (omega arith) (omega arith)
      ∙ ap (λ p. get_or room p d) (place_advanced l l' n k a (omega arith))
      ∙ sym (get_or-drop n old k d ∙ get_d_waiting l room (n + k) d fits (omega arith))))
      (cases_lt (length room) l.size)

  pub waiting_skipped : (l l' : Line) (room : List X) (n : ℕ) → Advanced l (min n l.len) l' → waiting l' room ≡ drop n (waiting l room)
  waiting_skipped l l' room n a =
      let old = waiting l room in
      waiting_advanced l l' room (min n l.len) a (omega arith)
      ∙ ⊎_elim (λ (more : l.len < n). drop_all (min n l.len) old (omega (arith, length_waiting_le l room)) ∙ sym (drop_all n old (omega (arith, length_waiting_le l room))))
      (λ (few : n ≤ l.len). ap (λ k. drop k old) (omega arith))
      (cases_lt l.len n)

  -- one more at the end
  pub entered : (l l' : Line) (room : List X) (x : X) (at : ℕ) → l.len < l.size → l.size ≤ length room → at ≡ place_of l l.len → l'.head ≡ l.head → l'.len ≡ l.len + 1 → l'.size ≡ l.size → Entered l room x l' (set room at x)
  entered l l' room x at few fits is head len size =
      let room' = set room at x in
      let within = place_within l l.len (omega arith) in
      let apart : (i : ℕ) → i < l.len → place_of l i ≢ place_of l l.len = λ i lt. place_apart l i l.len lt few in
      let m = length_waiting_fits l room fits in
      let fits' : l'.size ≤ length room' = omega (arith, length-set room at x) in
      let m' = length_waiting_fits l' room' fits' in
      let older : (k : ℕ) (d : X) → k < l.len → get_or room' (place_of l k) d ≡ get_or (waiting l room ++ x ∷ []) k d =
      λ k d lt.
      get_or-set_other room at (place_of l k) x d (λ e. apart k lt (e ∙ is))
      ∙ sym (get_or_append_left (waiting l room) (x ∷ []) d k (omega arith) ∙ get_d_waiting l room k d fits lt) in
      let last : (k : ℕ) (d : X) → k ≡ l.len → get_or room' (place_of l k) d ≡ get_or (waiting l room ++ x ∷ []) k d =
      λ k d here.
      ap (λ j. get_or room' j d) (ap (place_of l) here ∙ sym is)
      ∙ get_or-set_same room at x d (omega arith)
      ∙ sym (get_or_push (waiting l room) x d k (omega arith)) in
      record {
        joins =
            same_lists (waiting l' room') (waiting l room ++ x ∷ []) (omega (arith, length_push (waiting l room) x))
            (λ k d lt.
            get_d_waiting l' room' k d fits' (omega arith)
            ∙ ap (λ p. get_or room' p d) (place_same l l' k head size)
            ∙ ⊎_elim (older k d) (λ past. last k d (omega arith)) (cases_lt k l.len));
        written = ap (λ k. set room k x) is;
        within = within;
        free = apart;
        head = head;
        len = len;
        size = size;
      }

  -- what a walk that reads the i-th that waits may take from it

  pub got_within : (xs : List X) (i : ℕ) (x : X) → Some x ≡ slice_get xs i → i < length xs
  got_within xs i x is =
      ⊎_elim (λ low. low) (λ past. let z : ◌≡◌ {A = ℕ} 0 1 = cc (is, slice_get_past xs i past) in absurd (omega arith)) (cases_lt i (length xs))

  -- where the i-th is there, more than i wait
  pub some_waits : (l : Line) (room : List X) (i : ℕ) (x : X) → Some x ≡ slice_get (waiting l room) i → i + 1 ≤ l.len
  some_waits l room i x is = omega (arith, got_within (waiting l room) i x is, length_waiting_le l room)

  -- the oldest has left
  pub waiting_popped : (l l' : Line) (room : List X) (x : X) → Some x ≡ slice_get (waiting l room) 0 → Advanced l 1 l' → waiting l' room ≡ drop 1 (waiting l room)
  waiting_popped l l' room x is a = waiting_advanced l l' room 1 a (some_waits l room 0 x is)

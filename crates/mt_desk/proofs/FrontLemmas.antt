-- Publications of a history, as it grows.
use Rattle.std.proofs.Common.{◌≡◌, ◌≤◌, List, [], ◌∷◌, ◌++◌, get_or, Option, None, Some, option_map, slice_get, map, length, refl, sym, ap, ◌∙◌, subst, arith, length-append}
use Rattle.std.proofs.Math.Logic.{∥∥₁_elim}
use Rattle.std.proofs.Props.{props}
use Rattle.std.proofs.lemmas.List.{length-map, map-append, take-append-le, take_all}
use Rattle.std.proofs.lemmas.List.Elements.{All-push}
use Rattle.std.proofs.lemmas.List.Quantifiers.{all_pairs_push}
use Rattle.std.specs.List.{last_or}
use Rattle.mt_model.specs.declared.entries.Scope.{Scope}
use Rattle.mt_model.specs.Topology.{TopologyState, routes_of}
use Rattle.mt_plain.specs.Answers.{ArePublications, History, HistoryLine, IsPublication, IsView, after, after_lines}
use Rattle.mt_plain.specs.Answers as plain
use Rattle.mt_plain.specs.Plain.{Plain}
use Rattle.mt_plain.specs.Serve.{IsServed}
use Rattle.mt_routes.specs.declared.publication.Publication.{Publication}
use Rattle.mt_routes.specs.Publications.{front_of, last_front, publication}
use Rattle.mt_stands.specs.Ways.{CoreStands, CoreState}
use Rattle.mt_desk.specs.declared.history.Line.{Line}
use Rattle.mt_desk.specs.Fronts.{AreFronts, Published, Tells, publication_from}
use Rattle.mt_desk.specs.Histories.{Leads, answered, asked, history_from, line_from}

-- ---- with one line more they are those of the longer history

publication_more : (p : Plain) (h : History) (l : HistoryLine) (q : plain.Publication) → IsPublication p h q → IsPublication p (h ++ l ∷ []) q
publication_more p h l q is = (
  (let a = is.0 in let b = length-append h (l ∷ []) in omega (arith, a, b)),
  subst (λ (first : History). IsView (after p (map (λ x. x.event) first) (map (λ x. x.answer) first)) q.view) (sym (take-append-le q.front h (l ∷ []) is.0)) is.1,
)

publications_more : (p : Plain) (h : History) (l : HistoryLine) (qs : List plain.Publication) → ArePublications p h qs → ArePublications p (h ++ l ∷ []) qs
publications_more p h l qs are =
    record {
      begins = are.begins;
      each = λ k d inside. publication_more p h l (get_or qs k d) (are.each k d inside);
      fronts = are.fronts;
    }

fronts_more : (scopes : List Scope) (opening : CoreState) (lines : List Line) (l : Line) (list : List Publication) → AreFronts scopes opening lines list → AreFronts scopes opening (lines ++ l ∷ []) list
fronts_more scopes opening lines l list are =
    record {
      within = (let a = are.within in let b = length-append lines (l ∷ []) in omega (arith, a, b));
      publications = λ p stands.
          subst (λ h. ArePublications p h (map publication_from list)) (sym (map-append line_from lines (l ∷ [])))
          (publications_more p (history_from lines) (line_from l) (map publication_from list) (are.publications p stands));
    }

pub fronts_kept : (scopes : List Scope) (opening : CoreState) (lines : List Line) (l : Line) (list : List Publication) → ∥ AreFronts scopes opening lines list ∥₁ → ∥ AreFronts scopes opening (lines ++ l ∷ []) list ∥₁
fronts_kept scopes opening lines l list are = ∥∥₁_elim are (hlevel) (λ a. ∣ fronts_more scopes opening lines l list a ∣₁)

-- ---- one publication more, of all lines

begins_more : (qs : List plain.Publication) (q : plain.Publication) → option_map (λ x. x.front) (slice_get qs 0) ≡ Some 0 → option_map (λ x. x.front) (slice_get (qs ++ q ∷ []) 0) ≡ Some 0
begins_more [] q begins = absurd (cc begins)
begins_more (x ∷ qs) q begins = begins

publications_push : (p : Plain) (h : History) (qs : List plain.Publication) (q : plain.Publication) → q.front ≡ length h → IsPublication p h q → ArePublications p h qs → ArePublications p h (qs ++ q ∷ [])
publications_push p h qs q whole is are =
    record {
      begins = begins_more qs q are.begins;
      each = All-push (IsPublication p h) qs q are.each is;
      fronts = all_pairs_push (λ a b. a.front ≤ b.front) qs q are.fronts (λ k d inside. subst (λ n. (get_or qs k d).front ≤ n) (sym whole) ((are.each k d inside).0));
    }

-- the last of a list with one more is that one
last_added : (o : Option Publication) (list : List Publication) (q : Publication) → last_or o (list ++ q ∷ []) ≡ Some q
last_added o [] q = refl
last_added o (x ∷ list) q = last_added (Some x) list q

-- the topology's routes are the view after all lines
after_all : (p : Plain) (lines : List Line) → after_lines p (history_from lines) (length lines) ≡ after p (asked lines) (answered lines)
after_all p lines =
    ap (λ (h : History). after p (map (λ x. x.event) h) (map (λ x. x.answer) h)) (let long = length-map lines line_from in take_all (length lines) (history_from lines) (omega (arith, long)))

module _ (view : (p : Plain) (t : TopologyState) → IsServed p t → IsView p (routes_of t)) (scopes : List Scope) (opening now : CoreState) where
  module _ (lines : List Line) where
    abbrev newest : Publication
    newest = publication (length lines) (routes_of now.base.topology)

    is_newest : Leads scopes opening lines now → (p : Plain) → CoreStands p scopes opening → IsPublication p (history_from lines) (publication_from newest)
    is_newest leads p stands = (
      (let long = length-map lines line_from in omega (arith, long)),
      subst (λ q. IsView q (routes_of now.base.topology)) (sym (after_all p lines)) (view (after p (asked lines) (answered lines)) now.base.topology ((leads.each p stands).1.base.topology.served)),
    )

    module _ (list : List Publication) where
      fronts_push : Leads scopes opening lines now → AreFronts scopes opening lines list → AreFronts scopes opening lines (list ++ newest ∷ [])
      fronts_push leads are =
          record {
            within = (let last = ap front_of (last_added None list newest) in omega (arith, last));
            publications = λ p stands.
                subst (ArePublications p (history_from lines)) (sym (map-append publication_from list (newest ∷ [])))
                (publications_push p (history_from lines) (map publication_from list) (publication_from newest) (sym (length-map lines line_from)) (is_newest leads p stands) (are.publications p stands));
          }

      pub fronts_added : ∥ Leads scopes opening lines now ∥₁ → ∥ AreFronts scopes opening lines list ∥₁ → ∥ AreFronts scopes opening lines (list ++ newest ∷ []) ∥₁
      fronts_added leads are = ∥∥₁_elim leads (hlevel) (λ l. ∥∥₁_elim are (hlevel) (λ a. ∣ fronts_push l a ∣₁))

-- the first one
pub first_front : ((p : Plain) (t : TopologyState) → IsServed p t → IsView p (routes_of t)) → (scopes : List Scope) (opening : CoreState)
    → ∥ AreFronts scopes opening [] (publication 0 (routes_of opening.base.topology) ∷ []) ∥₁
first_front view scopes opening =
    ∣ record {
      within = omega arith;
      publications = λ p stands.
          record {
            begins = refl;
            each = All-push (IsPublication p []) [] (publication_from (publication 0 (routes_of opening.base.topology))) (λ k d inside. absurd (omega (arith, inside)))
                (omega arith, view p opening.base.topology (stands.base.topology.served));
            fronts = λ i j d below inside. absurd (omega (arith, below, inside));
          };
    } ∣₁

-- none has a front beyond the last line
pub last_front_within : (scopes : List Scope) (opening : CoreState) (lines : List Line) (list : List Publication) → ∥ AreFronts scopes opening lines list ∥₁ → last_front list ≤ length lines
last_front_within scopes opening lines list are = ∥∥₁_elim are (hlevel props) (λ a. a.within)

-- ---- what is known of them without the book

pub published : (scopes : List Scope) (opening now : CoreState) (lines : List Line) (list : List Publication) → ∥ Leads scopes opening lines now ∥₁ → ∥ AreFronts scopes opening lines list ∥₁ → Published scopes opening list
published scopes opening now lines list leads are = ∥∥₁_elim leads (hlevel) (λ l. ∥∥₁_elim are (hlevel) (λ a. ∣ (lines, now, l, a) ∣₁))

pub tells : (scopes : List Scope) (opening now : CoreState) (lines : List Line) (old new : List Publication) → new ≡ old ++ publication (length lines) (routes_of now.base.topology) ∷ []
    → ∥ Leads scopes opening lines now ∥₁ → ∥ AreFronts scopes opening lines new ∥₁ → Tells scopes opening new
tells scopes opening now lines old new is leads are =
    ∥∥₁_elim leads (hlevel) (λ l. ∥∥₁_elim are (hlevel) (λ a. ∣ (lines, now, l, a, ap (last_or None) is ∙ last_added None old (publication (length lines) (routes_of now.base.topology))) ∣₁))

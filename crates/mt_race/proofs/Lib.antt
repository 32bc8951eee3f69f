mod RaceLemmas

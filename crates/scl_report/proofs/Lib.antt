mod JsonTexts

mod Results
mod AcceptedTexts
mod ShortTexts
